-- Which texts a scanner rule wins, in which texts two rules overlap, and the least of these.
use Rattle.std.specs.Prelude.{◌≢◌, ℕ, ◌≤◌, List, [], Option, None, Some}
use Rattle.cs_pattern_parts.specs.Items.StandsFor.{AreBytes}
use Rattle.cs_pattern_parts.specs.Tree.Pattern.{Regex}
use Rattle.cs_scanner.specs.Automaton.Machine.{MatchesRule}
use Rattle.cs_scanner.specs.Lexeme.Order.{IsAtMost}

-- The rule wins the text, which isn't empty: of the rules whose patterns match the whole text it is the lowest.
pub record Wins (patterns : List Regex) (rule : ℕ) (text : List ℕ) : Type 0 where
  pub some : text ≢ []
  pub matches : MatchesRule patterns rule text
  pub lowest : (other : ℕ) → MatchesRule patterns other text → rule ≤ other

-- The two rules overlap in the text, which isn't empty: the patterns of both match the whole text, whichever rule wins it.
pub record Overlap (patterns : List Regex) (rule other : ℕ) (text : List ℕ) : Type 0 where
  pub some : text ≢ []
  pub matches : MatchesRule patterns rule text
  pub other_matches : MatchesRule patterns other text

-- of all texts of bytes that are P, this is the least by the order of lexemes
pub record IsLeastOf (P : List ℕ → Type 0) (text : List ℕ) : Type 0 where
  pub bytes : AreBytes text
  pub is : P text
  pub least : (other : List ℕ) → AreBytes other → P other → IsAtMost text other

-- the least text that the rule wins
abbrev pub IsLeastWin : List Regex → ℕ → List ℕ → Type 0
IsLeastWin patterns rule text = IsLeastOf (Wins patterns rule) text

-- the least text in which the two rules overlap
abbrev pub IsLeastBoth : List Regex → ℕ → ℕ → List ℕ → Type 0
IsLeastBoth patterns rule other text = IsLeastOf (Overlap patterns rule other) text

-- the least text of bytes that is P, or that none is
abbrev pub IsLeastIfAny : (List ℕ → Type 0) → Option (List ℕ) → Type 0
IsLeastIfAny P None = (text : List ℕ) → AreBytes text → P text → ⊥
IsLeastIfAny P (Some text) = IsLeastOf P text
