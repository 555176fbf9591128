-- Spacing by spacing, and where none stands next the gap ends.
use Rattle.std.proofs.Common.{ap, arith, length}
use Rattle.std.proofs.lemmas.List.{length-drop}
use Rattle.cs_lex.specs.Layout.Steps.{here}
use Rattle.cs_lex.proofs.OnLayout.Walks.{units_push}
use Rattle.cs_bytes.specs.Classes.{is_in}
use Rattle.cs_lex.specs.Actions.Gaps.{IsSpacing}
use Rattle.cs_lex.proofs.OnActions.GapEnds.{gap_is}
use Rattle.cs_lex.proofs.actions.gap.gap_size.Goals as goal

pub loop-size-init : goal.loop-size-init
loop-size-init c = record { units = here; within = omega arith }

pub loop-size-preserved : goal.loop-size-preserved
loop-size-preserved c = record {
  units = units_push (IsSpacing (is_in c.args.class)) c.args.text.now c.from_offset.result.now c.loop-size.at c.in-Some.size c.loop-size.invariant.units c.from_offset.ensures c.in-Some.ensures.spacing;
  within = omega (arith, c.loop-size.invariant.within, c.in-Some.ensures.within.1, ap length c.from_offset.ensures, length-drop c.loop-size.at c.args.text.now);
}

pub returns-clause-gap : goal.returns-clause-gap
returns-clause-gap c = gap_is (is_in c.args.class) c.args.text.now c.from_offset.result.now c.loop-size.at c.loop-size.invariant.units c.from_offset.ensures c.in_default.ensures.none
