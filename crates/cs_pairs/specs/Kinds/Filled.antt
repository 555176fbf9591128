-- A row of costs that is filled from its first number on.
use Rattle.std.specs.Prelude.{◌≡◌, ℕ, List, length}
use Rattle.cs_grammar.specs.Grammar.{IsNumberOf}
use Rattle.cs_least.specs.declared.cost.cost.Cost.{Cost}
use Rattle.cs_least.specs.Cost.Least.{IsCost}
use Rattle.cs_least.specs.Cost.Rank.{entry}

-- the row says of the first so many numbers what their kinds cost
pub record IsFilled {A : Type 0} (limit : ℕ) (Kind : ℕ → A → Type 0) (measure : A → ℕ) (count : ℕ) (row : List Cost) : Type 0 where
  pub many : length row ≡ count
  pub exact : (n : ℕ) → IsNumberOf count n → IsCost limit (Kind n) measure (entry row n)
