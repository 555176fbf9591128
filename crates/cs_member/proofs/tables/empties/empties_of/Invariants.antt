use Rattle.std.proofs.Common.{◌≡◌, ◌≤◌, ◌+◌, length}
use Rattle.std.specs.Prelude.{◌==◌}
use Rattle.std.specs.List.{count_by}
use Rattle.cs_member.specs.Tables.Tables.{AreTrue}
use Rattle.cs_member.proofs.OnTables.Emptying.{AreRoundsTo}
use Rattle.cs_member.proofs.tables.empties.empties_of.Given as goal

abbrev pub invariant-loop-found : goal.invariant-loop-found
invariant-loop-found l = record {
  are_true : AreTrue l.grammar l.rules.items;
  rounds : AreRoundsTo l.grammar l.rules.items l.rounds.items l.round;
  few : l.round + count_by (λ r. r == 0) l.rules.items ≤ length l.rules.items;
  sizes : length l.sizes.items ≡ l.grammar.nonterminals + 1;
}

abbrev pub decreases-loop-found : goal.decreases-loop-found
decreases-loop-found l = count_by (λ r. r == 0) l.rules.items
