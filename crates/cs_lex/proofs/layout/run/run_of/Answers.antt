-- One piece more, and the text that is walked over stays as it is.
use Rattle.std.proofs.Common.{List, ℕ, ◌-◌, ◌∙◌, ap, arith, drop, length, subst}
use Rattle.cs_lex.specs.Layout.Runs.{IsPiece}
use Rattle.cs_lex.specs.Layout.Steps.{here}
use Rattle.cs_lex.proofs.OnLayout.Walks.{units_to}
use Rattle.cs_lex.proofs.layout.run.run_of.Goals as goal

pub loop-walk-init : goal.loop-walk-init
loop-walk-init c = record { units = here; within = omega arith; text = c.new-walk.ensures }

pub loop-walk-preserved : goal.loop-walk-preserved
loop-walk-preserved c = record {
  units = units_to (IsPiece c.args.braces) c.args.text.now c.loop-walk.at c.in-Some.end c.loop-walk.invariant.units c.in-Some.ensures.within.0
      (subst (λ (t : List ℕ). IsPiece c.args.braces (drop c.loop-walk.at t) (c.in-Some.end - c.loop-walk.at)) c.loop-walk.invariant.text c.in-Some.ensures.piece);
  within = omega (arith, c.in-Some.ensures.within.1, ap length c.loop-walk.invariant.text);
  text = c.in-Some.ensures.text ∙ c.loop-walk.invariant.text;
}
