-- Lists by number, to which entries are added.
use Rattle.std.specs.Prelude.{◌≡◌, ◌++◌, ◌∷◌, [], slice_set, ℕ, List, Some, Contains, slice_get}
use Rattle.std.specs.Global.{Vec}

-- the entry is put last in the list of a number
pub record IsAdded {X : Type 0} (n : ℕ) (entry : X) (old new : List (Vec X)) : Type 0 where
  pub list : Vec X
  pub longer : Vec X
  pub was : slice_get old n ≡ Some list
  pub is : longer.items ≡ list.items ++ entry ∷ []
  pub lists : new ≡ slice_set old n longer

-- the list of a number has the entry
abbrev pub HasAt : {X : Type 0} → List (Vec X) → ℕ → X → Type 0
HasAt {X} lists n entry = (list : Vec X) × (slice_get lists n ≡ Some list) × Contains list.items entry
