use Rattle.std.proofs.Common.{◌/◌, ◌<◌, ℕ}
use Rattle.std.specs.Prelude.{All, ◌↔◌}
use Rattle.cs_member.specs.Tables.Sets.{Has, InWords}
use Rattle.cs_member.proofs.tables.word.pack.Given as goal

abbrev pub invariant-loop-at : goal.invariant-loop-at
invariant-loop-at l = record {
  short : All (λ word. word.at < 1024) l.words.items;
  has : (n : ℕ) → InWords l.words.items n ↔ ((n / 64 < l.at) × Has l.set n);
}
