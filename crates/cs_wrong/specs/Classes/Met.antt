-- The table of the lists that were met. Working words of proofs.
use Rattle.std.specs.Prelude.{ℕ, Bool, List, [], ◌∷◌, ◌++◌, if◌then◌else◌, map}
use Rattle.std.specs.Global.{Vec}

abbrev pub lists_in : List (Vec ℕ × Unit {0}) → List (List ℕ)
lists_in entries = map (λ e. e.0.items) entries

-- the lists that are known behind one that was met, or wasn't
abbrev pub known_with : List (List ℕ) → List ℕ → Bool → List (List ℕ)
known_with old list again = if again then old else old ++ list ∷ []
