use Rattle.std.proofs.Common.{◌-◌, ◌≤◌, length}
use Rattle.cs_lex.specs.Layout.Patterns.{IsUnit}
use Rattle.cs_lex.specs.Layout.Steps.{Walk, Spans}
use Rattle.cs_lex.proofs.layout.pattern.pattern_size.Given as goal

abbrev pub invariant-loop-at : goal.invariant-loop-at
invariant-loop-at l = record {
  units : Walk (Spans IsUnit l.text) 0 l.at;
  within : l.at ≤ length l.text;
}

abbrev pub decreases-loop-at : goal.decreases-loop-at
decreases-loop-at l = length l.text - l.at
