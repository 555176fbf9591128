use Rattle.std.proofs.Common.{◌≤◌, length}
use Rattle.cs_lex.proofs.OnReading.KindsFound.{KindsFrom}
use Rattle.cs_lex.proofs.reading.kinds.rule_kinds.Given as goal

abbrev pub invariant-loop-at : goal.invariant-loop-at
invariant-loop-at l = record {
  kinds : KindsFrom l.yacc l.bytes l.rules l.at l.next l.kinds.items;
  within : l.at ≤ length l.rules;
}

abbrev pub decreases-loop-at : goal.decreases-loop-at
decreases-loop-at l = l.at
