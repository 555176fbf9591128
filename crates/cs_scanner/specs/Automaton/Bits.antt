-- Sets of numbers as bits in words of 64.
use Rattle.std.specs.Prelude.{◌≡◌, ◌⊎◌, ℕ, ◌*◌, ◌/◌, ◌%◌, ◌<◌, Bool, true, ◌==◌, List, length, slice_index, Contains}
use Rattle.std.specs.Int.{bit_at}

-- the number's bit is set
abbrev pub bit : List ℕ → ℕ → Bool
bit words n = bit_at (slice_index words (n / 64)) (n % 64) == 1

-- the numbers are put into a set, as far as it has room
pub record Puts (old new : List ℕ) (numbers : List ℕ) : Type 0 where
  pub long : length new ≡ length old
  pub kept : (m : ℕ) → bit old m ≡ true → bit new m ≡ true
  pub added : (m : ℕ) → Contains numbers m → m < 64 * length new → bit new m ≡ true
  pub others : (m : ℕ) → bit new m ≡ true → (bit old m ≡ true) ⊎ Contains numbers m
