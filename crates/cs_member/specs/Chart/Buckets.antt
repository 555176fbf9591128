-- Rows by number, where few numbers have any.
use Rattle.std.specs.Prelude.{◌≡◌, ◌<◌, ℕ, List, [], ◌∷◌, Some, length, map, slice_get, slice_index_or}
use Rattle.std.specs.Global.{Vec}
use Rattle.cs_member.specs.declared.chart.buckets.Buckets.{Buckets}
use Rattle.cs_member.specs.declared.chart.chart.Row.{Row}

-- the list of each number, by its place
abbrev pub lists_by : List ℕ → List (Vec Row) → List (Vec Row)
lists_by places [] = []
lists_by places (none ∷ more) = map (λ k. slice_index_or (none ∷ more) k none) places

abbrev pub rows_in : Buckets → List (Vec Row)
rows_in buckets = lists_by buckets.places.items buckets.lists.items

-- the first list is empty, and each other one is that of one number at most
pub record ArePlaces (places : List ℕ) (lists : List (Vec Row)) : Type 0 where
  pub some : 0 < length lists
  pub within : (n k : ℕ) → slice_get places n ≡ Some k → k < length lists
  pub none : (list : Vec Row) → slice_get lists 0 ≡ Some list → list.items ≡ []
  pub once : (m n k : ℕ) → slice_get places m ≡ Some k → slice_get places n ≡ Some k → 0 < k → m ≡ n

abbrev pub AreBuckets : Buckets → Type 0
AreBuckets buckets = ArePlaces buckets.places.items buckets.lists.items

-- these are the rows of the number
abbrev pub IsBucket : Buckets → ℕ → List Row → Type 0
IsBucket buckets n rows = (list : Vec Row) × (slice_get (rows_in buckets) n ≡ Some list) × (rows ≡ list.items)
