use Rattle.std.proofs.Common.{◌≡◌, ◌≤◌, ◌<◌, ℕ, length, get_or}
use Rattle.cs_member.proofs.tables.word.widen.Given as goal

abbrev pub invariant-loop : goal.invariant-loop
invariant-loop l = record {
  counted : length l.set.items ≡ l.counter;
  short : l.at < 1024 → length l.fn.set.items ≤ 1024 → length l.set.items ≤ 1024;
  same : (n : ℕ) → get_or l.set.items n 0 ≡ get_or l.fn.set.items n 0;
}
