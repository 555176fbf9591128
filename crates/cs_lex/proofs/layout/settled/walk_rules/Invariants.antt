use Rattle.std.proofs.Common.{◌≤◌, ◌-◌, length}
use Rattle.cs_lex.proofs.OnLayout.SettledTexts.{WalkedRules}
use Rattle.cs_lex.proofs.layout.settled.walk_rules.Given as goal

abbrev pub invariant-loop-at : goal.invariant-loop-at
invariant-loop-at l = record {
  walked : WalkedRules l.bytes l.from l.at;
  within : l.at ≤ length l.bytes;
}

abbrev pub decreases-loop-at : goal.decreases-loop-at
decreases-loop-at l = length l.bytes - l.at
