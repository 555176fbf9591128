-- Words of numbered classes as texts of numbers.
use Rattle.std.specs.Prelude.{ℕ, ◌+◌, List, [], ◌∷◌, map}
use Rattle.cs_pattern_parts.specs.Tree.Pattern.{Regex, Empty, Class, Join, Either, Many, Parts, Nothing, Then, Matches}
use Rattle.cs_scanner.specs.Automaton.Re.{Spells}
use Rattle.cs_scanner.specs.Automaton.Meaning.{re}
use Rattle.cs_scanner.specs.Automaton.Places.{NumberedClass, Itself, letters, with_places}

-- the pattern with each class read as its number, from left to right
abbrev mutual
  pub numbered : ℕ → Regex → Regex
  numbered from Empty = Empty
  numbered from (Class set) = Class (from ∷ [])
  numbered from (Join parts) = Join (numbered_parts from parts)
  numbered from (Either parts) = Either (numbered_parts from parts)
  numbered from (Many part) = Many (numbered from part)

  pub numbered_parts : ℕ → Parts → Parts
  numbered_parts from Nothing = Nothing
  numbered_parts from (Then r rs) = Then (numbered from r) (numbered_parts (from + letters (re r)) rs)

abbrev pub numbers : List NumberedClass → List ℕ
numbers = map (λ class. class.number)

-- the numbers of each word of the pattern's numbered classes are a list that the pattern matches, read so
abbrev pub AreMatchedByNumbers : ℕ → ℕ → Regex → Type 0
AreMatchedByNumbers rule from r =
    (word : List NumberedClass) → Spells Itself (with_places rule from (re r)) word → Matches (numbered from r) (numbers word)
