use Rattle.std.proofs.Common.{◌-◌, ◌≤◌, length}
use Rattle.cs_lex.specs.Layout.Steps.{Walk, Spans}
use Rattle.cs_bytes.specs.Classes.{is_in}
use Rattle.cs_lex.specs.Actions.Gaps.{IsSpacing}
use Rattle.cs_lex.proofs.actions.gap.gap_size.Given as goal

abbrev pub invariant-loop-size : goal.invariant-loop-size
invariant-loop-size l = record {
  units : Walk (Spans (IsSpacing (is_in l.class)) l.text) 0 l.at;
  within : l.at ≤ length l.text;
}

abbrev pub decreases-loop-size : goal.decreases-loop-size
decreases-loop-size l = length l.text - l.at
