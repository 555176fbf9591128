-- How many different sets there are, over all texts of bytes.
use Rattle.std.specs.Prelude.{◌≡◌, ◌≢◌, ℕ, ◌<◌, List, [], All, slice_get, Some, length}
use Rattle.cs_scanner.specs.declared.automaton.error.AutomatonError.{AutomatonError}
use Rattle.cs_scanner.specs.declared.automaton.error.AutomatonError.TheVariants.{TooManyStates}
use Rattle.cs_scanner.specs.Automaton.Re.{Re}
use Rattle.cs_scanner.specs.Automaton.Places.{InSet}

module _ (In : List ℕ → ℕ → Type 0) where
  -- two texts have the same numbers
  abbrev pub HaveOneSet : List ℕ → List ℕ → Type 0
  HaveOneSet x y = (p : ℕ) → (In x p → In y p) × (In y p → In x p)

  -- There are more than n sets: more than n texts that aren't empty have sets that aren't empty and differ pairwise.
  pub record IsAbove (n : ℕ) : Type 0 where
    pub texts : List (List ℕ)
    pub many : n < length texts
    pub each : (k : ℕ) (x : List ℕ) → slice_get texts k ≡ Some x → (x ≢ []) × All (λ b. b < 256) x × ((p : ℕ) × In x p)
    pub differ : (j k : ℕ) (x y : List ℕ) → slice_get texts j ≡ Some x → slice_get texts k ≡ Some y → HaveOneSet x y → j ≡ k

-- so many sets are the most that there may be, which is 16,384, and there are more
abbrev pub TooMany : List (Re (List ℕ)) → ℕ → Type 0
TooMany rs most = (most ≡ 16384) × IsAbove (InSet rs) 16384

-- the error that names so many
abbrev pub too_many : ℕ → AutomatonError
too_many most = TooManyStates most
