-- Patterns over letters of any type, of a pattern over bytes.
use Rattle.std.specs.Prelude.{ℕ, List, [], ◌∷◌, ◌++◌, Contains, map}
use Rattle.cs_pattern_parts.specs.declared.tree.pattern.Pattern.{Pattern}
use Rattle.cs_pattern_parts.specs.Tree.Pattern.{Regex, regex, Empty, Class, Join, Either, Many, Parts, Nothing, Then}
use Rattle.cs_scanner.specs.Automaton.Re.{Re, empty, letter, nothing, cat, alt, many}

-- the pattern with two parts at each join and each either
abbrev mutual
  pub re : Regex → Re (List ℕ)
  re Empty = empty
  re (Class set) = letter set
  re (Join parts) = cat_of parts
  re (Either parts) = alt_of parts
  re (Many part) = many (re part)

  pub cat_of : Parts → Re (List ℕ)
  cat_of Nothing = empty
  cat_of (Then r rs) = cat (re r) (cat_of rs)

  pub alt_of : Parts → Re (List ℕ)
  alt_of Nothing = nothing
  alt_of (Then r rs) = alt (re r) (alt_of rs)

abbrev pub res : List Regex → List (Re (List ℕ))
res = map re

-- the same of the patterns of the code
abbrev pub res_of : List Pattern → List (Re (List ℕ))
res_of patterns = res (map regex patterns)

-- the class has the byte
abbrev pub Has : List ℕ → ℕ → Type 0
Has class byte = Contains class byte

-- the classes of a pattern, from left to right
abbrev pub classes : {A : Type 0} → Re A → List A
classes empty = []
classes (letter a) = a ∷ []
classes nothing = []
classes (cat r s) = classes r ++ classes s
classes (alt r s) = classes r ++ classes s
classes (many r) = classes r

abbrev pub all_classes : {A : Type 0} → List (Re A) → List A
all_classes [] = []
all_classes (r ∷ rs) = classes r ++ all_classes rs
