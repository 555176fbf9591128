use Rattle.std.proofs.Common.{◌≤◌, ◌-◌, length}
use Rattle.cs_lex.proofs.OnReading.KindWalks.{WalkedKinds}
use Rattle.cs_lex.proofs.reading.settled.walk_kinds.Given as goal

abbrev pub invariant-loop-at : goal.invariant-loop-at
invariant-loop-at l = record {
  walked : WalkedKinds l.bytes l.from l.at;
  within : l.at ≤ length l.bytes;
}

abbrev pub decreases-loop-at : goal.decreases-loop-at
decreases-loop-at l = length l.bytes - l.at
