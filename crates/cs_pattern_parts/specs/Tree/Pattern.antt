-- Patterns as values, and what they match (POSIX.1-2017, lex, "Regular expressions in lex").
use Rattle.std.specs.Prelude.{◌≡◌, ◌⊎◌, ℕ, ◌+◌, max, List, map, [], ◌∷◌, ◌++◌, Contains}
use Rattle.cs_pattern_parts.specs.declared.tree.pattern.Pattern.{Pattern}
use Rattle.cs_pattern_parts.specs.declared.tree.pattern.Pattern.TheOpen.{Pattern-F}
use Rattle.cs_pattern_parts.specs.declared.tree.pattern.Pattern.TheFolds.{fold-Pattern}

-- a pattern with each list of parts as a list
mutual
  pub data Regex : Type 0 where
    Empty : Regex
    Class : (set : List ℕ) → Regex
    Join : (parts : Parts) → Regex
    Either : (parts : Parts) → Regex
    Many : (part : Regex) → Regex

  pub data Parts : Type 0 where
    Nothing : Parts
    Then : (first : Regex) → (others : Parts) → Parts

abbrev pub parts_of : List Regex → Parts
parts_of [] = Nothing
parts_of (r ∷ rs) = Then r (parts_of rs)

-- one node of a pattern, with the value of each part in its place
abbrev pub node_value : Pattern-F Regex → Regex
node_value Pattern-F.Empty = Empty
node_value (Pattern-F.Class set) = Class set
node_value (Pattern-F.Join parts) = Join (parts_of parts.items)
node_value (Pattern-F.Either parts) = Either (parts_of parts.items)
node_value (Pattern-F.Many part) = Many part.value

-- the value of a pattern
abbrev pub regex : Pattern → Regex
regex = fold-Pattern Regex node_value

abbrev pub regexes : List Pattern → List Regex
regexes = map regex

-- one part alone, or several
abbrev pub alone_or : (Parts → Regex) → Parts → Regex
alone_or several Nothing = several Nothing
alone_or several (Then r Nothing) = r
alone_or several (Then r (Then s rs)) = several (Then r (Then s rs))

-- the list falls into any number of parts that are each P
pub data Repeats (P : List ℕ → Type 0) : List ℕ → Type 0 where
  no_more : Repeats P []
  one_more : (x y word : List ℕ) → P x → Repeats P y → word ≡ x ++ y → Repeats P word

-- The pattern matches the list of bytes. Empty matches the empty list, a class one byte of it, a join a list that falls
-- into parts which its members match in order, an either what one member matches, and a many a list that falls into any
-- number of parts which its member matches.
abbrev mutual
  pub Matches : Regex → List ℕ → Type 0
  Matches Empty word = word ≡ []
  Matches (Class set) word = (b : ℕ) × Contains set b × (word ≡ b ∷ [])
  Matches (Join parts) word = MatchInOrder parts word
  Matches (Either parts) word = SomeMatches parts word
  Matches (Many part) word = Repeats (Matches part) word

  pub MatchInOrder : Parts → List ℕ → Type 0
  MatchInOrder Nothing word = word ≡ []
  MatchInOrder (Then r rs) word = (x : List ℕ) × (y : List ℕ) × (word ≡ x ++ y) × Matches r x × MatchInOrder rs y

  pub SomeMatches : Parts → List ℕ → Type 0
  SomeMatches Nothing word = ⊥
  SomeMatches (Then r rs) word = Matches r word ⊎ SomeMatches rs word

-- a leaf is a class or an empty pattern
abbrev mutual
  pub leaves : Regex → ℕ
  leaves Empty = 1
  leaves (Class set) = 1
  leaves (Join parts) = all_leaves parts
  leaves (Either parts) = all_leaves parts
  leaves (Many part) = leaves part

  pub all_leaves : Parts → ℕ
  all_leaves Nothing = 0
  all_leaves (Then r rs) = leaves r + all_leaves rs

-- how many joins, eithers and manies stand around the part around which most stand
abbrev mutual
  pub nesting : Regex → ℕ
  nesting Empty = 0
  nesting (Class set) = 0
  nesting (Join parts) = part_nesting parts
  nesting (Either parts) = part_nesting parts
  nesting (Many part) = nesting part + 1

  -- with the pattern that has the parts
  pub part_nesting : Parts → ℕ
  part_nesting Nothing = 0
  part_nesting (Then r rs) = max (nesting r + 1) (part_nesting rs)
