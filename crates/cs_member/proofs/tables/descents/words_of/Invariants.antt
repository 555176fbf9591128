use Rattle.std.proofs.Common.{◌<◌, ◌≤◌, ℕ, length}
use Rattle.std.specs.Prelude.{◌↔◌}
use Rattle.cs_member.specs.Tables.Sets.{Has}
use Rattle.cs_member.specs.Tables.Expecting.{IsMarked}
use Rattle.cs_member.proofs.tables.descents.words_of.Given as goal

abbrev pub invariant-loop-number : goal.invariant-loop-number
invariant-loop-number l = record {
  short : length l.set.items ≤ 1024;
  has : (n : ℕ) → Has l.set.items n ↔ ((n < l.number) × IsMarked l.marks n);
}
