use Rattle.std.proofs.Common.{◌≡◌, ◌-◌, ◌≤◌, length}
use Rattle.cs_lex.specs.Layout.Runs.{IsPiece}
use Rattle.cs_lex.specs.Layout.Steps.{Walk, Spans}
use Rattle.cs_lex.proofs.layout.run.run_of.Given as goal

abbrev pub invariant-loop-walk : goal.invariant-loop-walk
invariant-loop-walk l = record {
  units : Walk (Spans (IsPiece l.braces) l.text) 0 l.at;
  within : l.at ≤ length l.text;
  text : l.walk ≡ l.text;
}

abbrev pub decreases-loop-walk : goal.decreases-loop-walk
decreases-loop-walk l = length l.text - l.at
