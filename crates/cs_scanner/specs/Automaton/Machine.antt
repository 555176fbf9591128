-- What contracts see of an automaton, what its states stand for, and which rule matches a text.
use Rattle.std.specs.Prelude.{◌≡◌, ◌≢◌, ℕ, zero, suc, ◌<◌, ◌≤◌, List, [], ◌∷◌, ◌++◌, All, Contains, Option, Some, None, slice_get, map}
use Rattle.cs_pattern_parts.specs.declared.tree.pattern.Pattern.{Pattern}
use Rattle.cs_pattern_parts.specs.Tree.Pattern.{Regex, regex, Matches}
use Rattle.cs_scanner.specs.Automaton.Listed.{ListsAll}
use Rattle.cs_scanner.specs.Automaton.Meaning.{res}
use Rattle.cs_scanner.specs.Automaton.Places.{IsSet}

-- the rule with this number, from 1, matches the text
pub record MatchesRule (patterns : List Regex) (rule : ℕ) (x : List ℕ) : Type 0 where
  pub index : ℕ
  pub pattern : Regex
  pub number : rule ≡ suc index
  pub at : slice_get patterns index ≡ Some pattern
  pub matched : Matches pattern x

-- the lowest rule that matches the text, if one does
abbrev pub IsFirstRule : List Regex → List ℕ → Option ℕ → Type 0
IsFirstRule patterns x None = (rule : ℕ) → MatchesRule patterns rule x → ⊥
IsFirstRule patterns x (Some rule) = MatchesRule patterns rule x × ((other : ℕ) → MatchesRule patterns other x → rule ≤ other)

-- all rules that match the text, ascending
abbrev pub AreMatching : List Regex → List ℕ → List ℕ → Type 0
AreMatching patterns x rules = ListsAll (λ rule. MatchesRule patterns rule x) rules

-- some rule matches a text that begins with x
abbrev pub IsBegun : List Regex → List ℕ → Type 0
IsBegun patterns x = (rule : ℕ) × (y : List ℕ) × MatchesRule patterns rule (x ++ y)

-- the patterns, and for each state the ascending numbers of its set
pub record Machine : Type 0 where
  pub patterns : List Pattern
  pub sets : List (List ℕ)

abbrev pub patterns_of : Machine → List Regex
patterns_of m = map regex m.patterns

-- The start, state 0, stands for the empty text, and its set is empty; any other state for the texts of its set.
abbrev pub StateOf : Machine → ℕ → List ℕ → Type 0
StateOf m zero x = x ≡ []
StateOf m (suc k) x = (ps : List ℕ) × (slice_get m.sets (suc k) ≡ Some ps) × (x ≢ []) × IsSet (res (patterns_of m)) x ps

-- the state behind the start with this number stands for some text of bytes, and this is its set, which has a number
pub record StandsForSome (m : Machine) (k : ℕ) (ps : List ℕ) : Type 0 where
  pub text : List ℕ
  pub bytes : All (λ b. b < 256) text
  pub stands : StateOf m (suc k) text
  pub number : ℕ
  pub has : Contains ps number

-- The start's set is empty; each other state stands for some text, and has a set that isn't; and no two have one set.
pub record HasOwnSets (m : Machine) : Type 0 where
  pub start : slice_get m.sets 0 ≡ Some []
  pub each : (k : ℕ) (ps : List ℕ) → slice_get m.sets (suc k) ≡ Some ps → StandsForSome m k ps
  pub apart : (j k : ℕ) (ps : List ℕ) → slice_get m.sets j ≡ Some ps → slice_get m.sets k ≡ Some ps → j ≡ k

-- The answer of a step behind x: None exactly where no rule matches a text that begins with x and the byte.
abbrev pub IsNextState : Machine → List ℕ → ℕ → Option ℕ → Type 0
IsNextState m x byte None = IsBegun (patterns_of m) (x ++ byte ∷ []) → ⊥
IsNextState m x byte (Some state) = IsBegun (patterns_of m) (x ++ byte ∷ []) × StateOf m state (x ++ byte ∷ [])
