use Rattle.std.proofs.Common.{◌≤◌, ◌-◌, length}
use Rattle.cs_lex.specs.Layout.Ends.{IsLine}
use Rattle.cs_lex.specs.Layout.Steps.{Walk}
use Rattle.cs_lex.proofs.layout.settled.definitions_end.Given as goal

abbrev pub invariant-loop-at : goal.invariant-loop-at
invariant-loop-at l = record {
  lines : Walk (IsLine l.bytes) 0 l.at;
  within : l.at ≤ length l.bytes;
}

abbrev pub decreases-loop-at : goal.decreases-loop-at
decreases-loop-at l = length l.bytes - l.at
