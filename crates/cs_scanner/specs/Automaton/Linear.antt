-- Which letter may come first, and what may come behind it.
use Rattle.std.specs.Prelude.{◌≡◌, Bool, true, false, ◌&&◌, ◌||◌, IsTrue, List, [], ◌∷◌, ◌⊎◌}
use Rattle.cs_scanner.specs.Automaton.Re.{Re, empty, letter, nothing, cat, alt, many}

module _ {A : Type 0} where
  -- the empty list is spelled
  abbrev pub nullable : Re A → Bool
  nullable empty = true
  nullable (letter a) = false
  nullable nothing = false
  nullable (cat r s) = nullable r && nullable s
  nullable (alt r s) = nullable r || nullable s
  nullable (many r) = true

  abbrev pub all_nullable : List (Re A) → Bool
  all_nullable [] = true
  all_nullable (r ∷ rs) = nullable r && all_nullable rs

  -- In r, with rs behind it, the letter a may come first, and the patterns `next` then stand behind it.
  abbrev pub First : Re A → List (Re A) → A → List (Re A) → Type 0
  First empty rs a next = ⊥
  First (letter b) rs a next = (a ≡ b) × (next ≡ rs)
  First nothing rs a next = ⊥
  First (cat r s) rs a next = First r (s ∷ rs) a next ⊎ (IsTrue (nullable r) × First s rs a next)
  First (alt r s) rs a next = First r rs a next ⊎ First s rs a next
  First (many r) rs a next = First r (many r ∷ rs) a next

  -- the same of a list of patterns, one after another
  abbrev pub Starts : List (Re A) → A → List (Re A) → Type 0
  Starts [] a next = ⊥
  Starts (r ∷ rs) a next = First r rs a next ⊎ (IsTrue (nullable r) × Starts rs a next)

  -- From these patterns the letters lead to those.
  abbrev pub GoesBy : List (Re A) → List A → List (Re A) → Type 0
  GoesBy rs [] last = rs ≡ last
  GoesBy rs (a ∷ letters) last = (next : List (Re A)) × Starts rs a next × GoesBy next letters last

  -- The letter a stands somewhere in r, with the patterns `next` behind it where rs stand behind r.
  abbrev pub Stands : Re A → List (Re A) → A → List (Re A) → Type 0
  Stands empty rs a next = ⊥
  Stands (letter b) rs a next = (a ≡ b) × (next ≡ rs)
  Stands nothing rs a next = ⊥
  Stands (cat r s) rs a next = Stands r (s ∷ rs) a next ⊎ Stands s rs a next
  Stands (alt r s) rs a next = Stands r rs a next ⊎ Stands s rs a next
  Stands (many r) rs a next = Stands r (many r ∷ rs) a next
