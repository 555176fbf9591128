use Rattle.std.proofs.Common.{◌≡◌, ◌-◌, ◌≤◌, length}
use Rattle.cs_lex.specs.Layout.Steps.{Walk, Spans}
use Rattle.cs_lex.specs.Actions.Marks.{IsUnmarked}
use Rattle.cs_lex.proofs.actions.mark.first_mark.Given as goal

abbrev pub invariant-loop-at : goal.invariant-loop-at
invariant-loop-at l = record {
  units : Walk (Spans IsUnmarked l.text) 0 l.at;
  within : l.at ≤ length l.text;
  text : l.walk ≡ l.text;
}

abbrev pub decreases-loop-at : goal.decreases-loop-at
decreases-loop-at l = length l.text - l.at
