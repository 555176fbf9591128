-- The words so far.
use Rattle.std.proofs.Common.{◌≡◌, ℕ, ◌<◌, length, get_or}
use Rattle.std.specs.Prelude.{bit_and}
use Rattle.cs_scanner.proofs.automaton.bits.common.Given as goal

abbrev pub invariant-loop-k : goal.invariant-loop-k
invariant-loop-k l = record {
  long : length l.words.items ≡ l.k;
  each : (j : ℕ) → j < l.k → get_or l.words.items j 0 ≡ bit_and (get_or l.left j 0) (get_or l.right j 0);
}
