-- Which places a text leads to, letter by letter.
use Rattle.std.specs.Prelude.{◌≡◌, ℕ, List, [], ◌∷◌, ◌++◌}
use Rattle.cs_scanner.specs.Automaton.Re.{Re}
use Rattle.cs_scanner.specs.Automaton.Linear.{Starts}
use Rattle.cs_scanner.specs.Automaton.Places.{NumberedClass, whole, HasByte}

-- reading the text may end at the place, with the patterns `next` behind it
pub data Reaches (rs : List (Re (List ℕ))) : List ℕ → NumberedClass → List (Re NumberedClass) → Type 0 where
  begins : (b : ℕ) (x : List ℕ) (a : NumberedClass) (next : List (Re NumberedClass)) → Starts (whole rs ∷ []) a next → HasByte a b → x ≡ b ∷ [] → Reaches rs x a next
  goes_on : (b : ℕ) (x y : List ℕ) (k a : NumberedClass) (mid next : List (Re NumberedClass)) → Reaches rs y k mid → Starts mid a next → HasByte a b → x ≡ y ++ b ∷ [] → Reaches rs x a next

-- some place with the number
pub record ReachesNumber (rs : List (Re (List ℕ))) (x : List ℕ) (p : ℕ) : Type 0 where
  pub place : NumberedClass
  pub next : List (Re NumberedClass)
  pub reaches : Reaches rs x place next
  pub number : place.number ≡ p
