-- The ascending list of all numbers of a kind.
use Rattle.std.specs.Prelude.{ℕ, List, Contains}
use Rattle.std.specs.List.Sorted.{IsStrictlyIncreasing}

-- the numbers ascend; each of them is P, and each number that is P is there
pub record ListsAll (P : ℕ → Type 0) (numbers : List ℕ) : Type 0 where
  pub ascend : IsStrictlyIncreasing numbers
  pub only : (n : ℕ) → Contains numbers n → P n
  pub all : (n : ℕ) → P n → Contains numbers n
