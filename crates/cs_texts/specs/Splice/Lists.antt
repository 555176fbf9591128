-- What two lists have in common.
use Rattle.std.specs.Prelude.{◌≡◌, ℕ, ◌-◌, ◌≤◌, List, length, take, drop}

-- so many of two lists' first elements are the same
pub record IsSameFront (xs ys : List ℕ) (count : ℕ) : Type 0 where
  pub first : count ≤ length xs
  pub second : count ≤ length ys
  pub same : take count xs ≡ take count ys

-- so many of two lists' last elements are the same, and as many and the others are not more than either has
pub record IsSameBack (xs ys : List ℕ) (others count : ℕ) : Type 0 where
  pub first : count ≤ length xs - others
  pub second : count ≤ length ys - others
  pub same : drop (length xs - count) xs ≡ drop (length ys - count) ys
