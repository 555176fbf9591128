-- A table of costs, one for each number from 1, of any kinds of things that have a size.
use Rattle.std.specs.Prelude.{ℕ, ◌+◌, ◌≤◌, List, All}
use Rattle.cs_least.specs.declared.cost.cost.Cost.{Cost}
use Rattle.cs_least.specs.Cost.Rank.{capped, rank, IsCapped, entry}

-- each number with a cost has a thing of its kind that costs no more
pub record Holds {A : Type 0} (limit : ℕ) (Kind : ℕ → A → Type 0) (measure : A → ℕ) (table : List Cost) : Type 0 where
  pub each : All (IsCapped limit) table
  pub reached : (n : ℕ) → rank limit (entry table n) ≤ limit + 1 → (a : A) × Kind n a × (capped limit (measure a) ≤ rank limit (entry table n))
