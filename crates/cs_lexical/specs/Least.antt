-- The least texts of all rules, and of all two of them.
use Rattle.std.specs.Prelude.{◌≡◌, ℕ, ◌+◌, ◌-◌, ◌<◌, ◌≤◌, List, [], Option, None, Some, length, map, slice_get, slice_index_or, count_by, is_none, is_some, option_map, sum_by}
use Rattle.std.specs.Borrow.{Bor}
use Rattle.std.proofs.Common.{Vec, Global}
use Rattle.cs_pattern_parts.specs.Tree.Pattern.{Regex}
use Rattle.cs_grammar.specs.Grammar.{IsNumberOf}
use Rattle.cs_scanner.specs.Lexeme.Texts.{texts_of}
use Rattle.cs_lexical.specs.Winning.{Wins, Overlap, IsLeastIfAny}

-- One text for each rule, if there is one, and for each rule a row with one for each rule behind it.
pub record LeastTexts : Type 0 where
  pub wins : List (Option (List ℕ))
  pub rows : List (List (Option (List ℕ)))

-- how many rules these are
abbrev pub rules_of : LeastTexts → ℕ
rules_of texts = length texts.wins

-- the entry of a rule; rules count from 1
abbrev pub win_in : LeastTexts → ℕ → Option (List ℕ)
win_in texts rule = slice_index_or texts.wins (rule - 1) None

-- the row of a rule
abbrev pub row_in : LeastTexts → ℕ → List (Option (List ℕ))
row_in texts rule = slice_index_or texts.rows (rule - 1) []

-- the entry of two rules, of which the first is the lower one
abbrev pub both_in : LeastTexts → ℕ → ℕ → Option (List ℕ)
both_in texts rule other = slice_index_or (row_in texts rule) (other - rule - 1) None

-- for each rule the least text that it wins, and for each two the least text in which they overlap
pub record AreLeastTexts (patterns : List Regex) (texts : LeastTexts) : Type 0 where
  pub rules : rules_of texts ≡ length patterns
  pub wins : (rule : ℕ) → IsNumberOf (length patterns) rule → IsLeastIfAny (Wins patterns rule) (win_in texts rule)
  pub rows : length texts.rows ≡ length patterns
  pub behind : (place : ℕ) (row : List (Option (List ℕ))) → slice_get texts.rows place ≡ Some row → place + 1 + length row ≡ length patterns
  pub overlaps : (rule other : ℕ) → 0 < rule → rule < other → other ≤ length patterns → IsLeastIfAny (Overlap patterns rule other) (both_in texts rule other)

-- ---- what is seen of the code's tables

-- the lists in a list of vectors
abbrev pub lists : List (Vec ℕ Global) → List (List ℕ)
lists = map (λ v. v.items)

-- the texts with these numbers; there is none where a list has no such number
abbrev pub named : List (Option (List ℕ)) → List ℕ → List (Option (List ℕ))
named texts numbers = map (λ n. slice_index_or texts n None) numbers

-- the numbers of texts, read
abbrev pub least_of : List ℕ → List (List ℕ) → List (Option (List ℕ)) → LeastTexts
least_of wins rows texts = record { wins = named texts wins; rows = map (named texts) rows }

-- an answer, as a text
abbrev pub seen : Option (Bor (List ℕ)) → Option (List ℕ)
seen = option_map (λ text. text.now)

-- how many numbers in rows have a text, and how many have none
abbrev pub all_some : List (Option (Vec ℕ Global)) → List (Vec ℕ Global) → ℕ
all_some texts rows = sum_by (count_by is_some) (map (named (texts_of texts)) (lists rows))

abbrev pub all_none : List (Option (Vec ℕ Global)) → List (Vec ℕ Global) → ℕ
all_none texts rows = sum_by (count_by is_none) (map (named (texts_of texts)) (lists rows))
