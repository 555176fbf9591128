-- Patterns of which an automaton can be made.
use Rattle.std.specs.Prelude.{ℕ, ◌≤◌, List, All, length, sum_by}
use Rattle.cs_pattern_parts.specs.Items.StandsFor.{AreBytes, HasSomeByte}
use Rattle.cs_pattern_parts.specs.Tree.Pattern.{Regex, Empty, Class, Join, Either, Many, Parts, Nothing, Then, Matches, leaves, nesting}

-- the set of each class of the pattern is P
abbrev mutual
  pub EachClass : (List ℕ → Type 0) → Regex → Type 0
  EachClass P Empty = Unit {0}
  EachClass P (Class set) = P set
  EachClass P (Join parts) = EachClassOf P parts
  EachClass P (Either parts) = EachClassOf P parts
  EachClass P (Many part) = EachClass P part

  pub EachClassOf : (List ℕ → Type 0) → Parts → Type 0
  EachClassOf P Nothing = Unit {0}
  EachClassOf P (Then r rs) = EachClass P r × EachClassOf P rs

-- each class has a byte
abbrev pub HasNoEmptyClass : Regex → Type 0
HasNoEmptyClass = EachClass HasSomeByte

-- each class has bytes alone
abbrev pub HasByteClasses : Regex → Type 0
HasByteClasses = EachClass AreBytes

abbrev pub HasPart : Parts → Type 0
HasPart Nothing = ⊥
HasPart (Then r rs) = Unit {0}

-- each either of the pattern has a part
abbrev mutual
  pub HasNoEmptyEither : Regex → Type 0
  HasNoEmptyEither Empty = Unit {0}
  HasNoEmptyEither (Class set) = Unit {0}
  HasNoEmptyEither (Join parts) = HaveNoEmptyEither parts
  HasNoEmptyEither (Either parts) = HasPart parts × HaveNoEmptyEither parts
  HasNoEmptyEither (Many part) = HasNoEmptyEither part

  pub HaveNoEmptyEither : Parts → Type 0
  HaveNoEmptyEither Nothing = Unit {0}
  HaveNoEmptyEither (Then r rs) = HasNoEmptyEither r × HaveNoEmptyEither rs

-- the pattern matches some list of bytes
abbrev pub MatchesSomeText : Regex → Type 0
MatchesSomeText r = (word : List ℕ) × AreBytes word × Matches r word

-- the pattern matches lists of bytes alone
abbrev pub MatchesBytesAlone : Regex → Type 0
MatchesBytesAlone r = (word : List ℕ) → Matches r word → AreBytes word

-- What an automaton asks of each pattern: no class and no either is empty, and at most 1,000 joins, eithers and manies stand
-- around any part.
pub record IsScannable (pattern : Regex) : Type 0 where
  pub classes : HasNoEmptyClass pattern
  pub eithers : HasNoEmptyEither pattern
  pub nested : nesting pattern ≤ 1000

-- What an automaton asks of all patterns: they are at most 2,048, with at most 16,384 leaves together.
pub record AreScannable (patterns : List Regex) : Type 0 where
  pub few : length patterns ≤ 2048
  pub positions : sum_by leaves patterns ≤ 16384
  pub each : All IsScannable patterns
