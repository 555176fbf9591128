-- What may come behind places, for a whole pattern at once.
use Rattle.std.specs.Prelude.{ℕ, Bool, false, ◌&&◌, ◌||◌, if◌then◌else◌, List, [], ◌∷◌, ◌++◌}
use Rattle.cs_scanner.specs.Automaton.Re.{Re, empty, letter, nothing, cat, alt, many}
use Rattle.cs_scanner.specs.Automaton.Linear.{nullable}
use Rattle.cs_scanner.specs.Automaton.Places.{NumberedClass}

module _ (S : ℕ → Bool) where
  -- a word of the pattern may end at one of the places
  abbrev pub final : Re NumberedClass → Bool
  final empty = false
  final (letter a) = S a.number
  final nothing = false
  final (cat r s) = (final r && nullable s) || final s
  final (alt r s) = final r || final s
  final (many r) = final r

  -- the same, or the pattern is entered and may be empty
  abbrev pub exit : Re NumberedClass → Bool → Bool
  exit r entered = (entered && nullable r) || final r

  -- the numbers of the places that may come next in the pattern, which is entered or not
  abbrev pub nexts : Re NumberedClass → Bool → List ℕ
  nexts empty entered = []
  nexts (letter a) entered = if entered then a.number ∷ [] else []
  nexts nothing entered = []
  nexts (cat r s) entered = nexts r entered ++ nexts s (exit r entered)
  nexts (alt r s) entered = nexts r entered ++ nexts s entered
  nexts (many r) entered = nexts r (entered || final r)

  -- for each many, from the last to the first, whether its part may end at one of the places
  abbrev pub finals : Re NumberedClass → List Bool
  finals empty = []
  finals (letter a) = []
  finals nothing = []
  finals (cat r s) = finals s ++ finals r
  finals (alt r s) = finals s ++ finals r
  finals (many r) = finals r ++ final r ∷ []
