-- Lists of different sets.
use Rattle.std.specs.Prelude.{◌≡◌, ◌⊎◌, ℕ, List, [], ◌∷◌, ◌++◌, Some, slice_get, map}
use Rattle.std.proofs.Common.{Vec, Global}

-- the lists in a list of vectors
abbrev pub lists : List (Vec ℕ Global) → List (List ℕ)
lists = map (λ v. v.items)

-- the list stays where it is one of them, and is put behind them where it is new
abbrev pub AddsOnce : List (List ℕ) → List (List ℕ) → List ℕ → Type 0
AddsOnce old new set = (new ≡ old) ⊎ ((new ≡ old ++ set ∷ []) × ((k : ℕ) → slice_get old k ≡ Some set → ⊥))
