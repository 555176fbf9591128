use Rattle.std.proofs.Common.{◌≤◌, ◌<◌, ◌⊎◌, ℕ, length, take}
use Rattle.std.specs.Prelude.{All, ◌↔◌}
use Rattle.cs_member.specs.Tables.Sets.{Has, InWords}
use Rattle.cs_member.proofs.tables.word.add_all.Given as goal

abbrev pub invariant-loop-word : goal.invariant-loop-word
invariant-loop-word l = record {
  short : All (λ word. word.at < 1024) l.words → length l.fn.set.items ≤ 1024 → length l.set.items ≤ 1024;
  has : (n : ℕ) → Has l.set.items n ↔ (Has l.fn.set.items n ⊎ InWords (take l.word-index l.words) n);
}
