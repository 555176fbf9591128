-- Only parts without a mark were passed, so a mark that is met is the first; an open comment hides the rest.
use Rattle.std.proofs.Common.{List, ℕ, ◌-◌, ◌∙◌, ap, arith, drop, length, refl, subst}
use Rattle.cs_ctext.specs.Blocks.{BeginsPart}
use Rattle.cs_ctext.specs.Comments.{IsOpenComment}
use Rattle.cs_lex.specs.Layout.Steps.{here}
use Rattle.cs_lex.specs.Actions.MarkViews.{mark_of}
use Rattle.cs_lex.proofs.OnActions.MarksFound.{first_is, none_open, unmarked_to}
use Rattle.cs_lex.proofs.actions.mark.first_mark.Goals as goal

pub loop-at-init : goal.loop-at-init
loop-at-init c = record { units = here; within = omega arith; text = c.new-walk.ensures }

pub returns-in-Some : goal.returns-in-Some
returns-in-Some c = first_is c.args.text.now c.from_offset.result.now c.loop-at.at (mark_of c.in-Some.mark) c.loop-at.invariant.units c.from_offset.ensures c.in-Some.ensures

pub returns-in_err-at : goal.returns-in_err-at
returns-in_err-at c =
    rw c.from_residual.ensures (none_open c.args.text.now (drop c.loop-at.at c.args.text.now) c.loop-at.at c.loop-at.invariant.units refl
    (subst (λ (t : List ℕ). IsOpenComment (drop c.loop-at.at t)) c.loop-at.invariant.text c.in_err-at.ensures.unclosed))

pub loop-at-preserved : goal.loop-at-preserved
loop-at-preserved c = record {
  units = unmarked_to c.args.text.now c.from_offset.result.now c.loop-at.at c.in_ok-at.at c.loop-at.invariant.units c.from_offset.ensures c.in_default.ensures c.in_ok-at.ensures.within.0
      (subst (λ (t : List ℕ). BeginsPart (drop c.loop-at.at t) (c.in_ok-at.at - c.loop-at.at)) c.loop-at.invariant.text c.in_ok-at.ensures.part);
  within = omega (arith, c.in_ok-at.ensures.within.1, ap length c.loop-at.invariant.text);
  text = c.in_ok-at.ensures.text ∙ c.loop-at.invariant.text;
}
