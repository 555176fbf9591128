-- What a keeper knows of the negatives that were kept, and which one it gives next. Working words of proofs, but for `Tells`.
use Rattle.std.specs.Prelude.{Option, None, Some, MatchOption, ◌≡◌, ◌⊎◌, ◌↔◌, ℕ, ◌+◌, ◌*◌, ◌<◌, ◌≤◌, Bool, true, false, List, [], ◌∷◌, ◌++◌, length, All, IsTrue, count_by, slice_index}
use Rattle.cs_grammar.specs.declared.symbol.Mark.{Mark}
use Rattle.cs_grammar.specs.declared.symbol.Mark.TheVariants.{Begin, Token, End}
use Rattle.cs_grammar.specs.Grammar.{PlainGrammar}
use Rattle.cs_goals.specs.Goal.{IsLeft}
use Rattle.cs_pairs.specs.Pairs.Pairs.{IsAdjacent}
use Rattle.cs_mutate.specs.declared.edit.Edit.{Edit}
use Rattle.cs_mutate.specs.declared.edit.Edit.TheVariants.{Delete, Insert, Replace, Swap}
use Rattle.cs_mutate.specs.declared.negative.Negative.{Negative}
use Rattle.cs_mutate.specs.Poison.{IsPair, between}
use Rattle.cs_mutate.specs.Negatives.{IsHarmless, IsNegative, AreNegatives, Search}
use Rattle.cs_mutate.specs.Kept.{AreKept, IsKept, IsOnlyAt, is_alike}

-- how many are kept of each operator and left mark, of how many tokens marks are, and a count for each operator and left mark
pub record Counters : Type 0 where
  pub first : Option ℕ
  pub tokens : ℕ
  pub counts : List ℕ

-- there are counts only where not all are kept
abbrev pub many_counts : Option ℕ → ℕ → ℕ
many_counts None tokens = 0
many_counts (Some most) tokens = 4 * (tokens + 1)

-- where the counts of an operator begin
abbrev pub row_of : ℕ → Edit → ℕ
row_of tokens (Delete i) = 0
row_of tokens (Insert i t) = tokens + 1
row_of tokens (Replace i t) = 2 * (tokens + 1)
row_of tokens (Swap i) = 3 * (tokens + 1)

-- and which of them is that of a left mark
abbrev pub left_number : Mark → ℕ
left_number Begin = 0
left_number (Token t) = t
left_number End = 0

abbrev pub slot_of : ℕ → Negative → ℕ
slot_of tokens n = row_of tokens n.edit + left_number n.left

-- each count is that of the negatives among these that are alike
abbrev pub CountsAlike : ℕ → List ℕ → List Negative → Type 0
CountsAlike tokens counts before =
    (n : Negative) → IsLeft tokens n.left → slice_index counts (slot_of tokens n) ≡ count_by (is_alike n) before

-- The counters tell of these kept negatives: where not all are kept, how many of them are alike.
abbrev pub Tells : Counters → List Negative → Type 0
Tells counters before = MatchOption counters.first (Unit {0}) (λ most. CountsAlike counters.tokens counters.counts before)

-- ---- whether a poisoned pair is the only one

-- each pair behind the one at this place is adjacent
abbrev pub IsSoundBehind : PlainGrammar → List Mark → ℕ → Type 0
IsSoundBehind g marks at = (k : ℕ) (a b : Mark) → at < k → IsPair marks k a b → IsAdjacent g a b

-- so it is of some mark, these tokens and this mark
abbrev pub TellsBehind : PlainGrammar → List ℕ → Mark → ℕ → Bool → Type 0
TellsBehind g list right at sound = (left : Mark) → (IsTrue sound ↔ IsSoundBehind g (between left list right) at)

-- each pair but the one at this place is adjacent
abbrev pub TellsOnly : PlainGrammar → List Mark → ℕ → Bool → Type 0
TellsOnly g marks at only = (IsTrue only ↔ IsOnlyAt g marks at)

-- ---- the next kept negative

-- it is a negative of the search's list
abbrev pub IsNegativeOf : Search → Negative → Type 0
IsNegativeOf s n = IsNegative s.grammar s.base n

-- fewer edits are left
abbrev pub HasFewer : Search → Search → Type 0
HasFewer old new = length new.edits + 1 ≤ length old.edits

-- behind one more negative, if it is kept, or if one was found
abbrev pub behind_if : Bool → List Negative → Negative → List Negative
behind_if true before n = before ++ n ∷ []
behind_if false before n = before

abbrev pub behind_found : Option Negative → List Negative → List Negative
behind_found None before = before
behind_found (Some n) before = before ++ n ∷ []

-- an edit that is harmless, or whose negative isn't kept behind these
abbrev pub IsDropped : PlainGrammar → List ℕ → Option ℕ → List Negative → Edit → Type 0
IsDropped g w first before e =
    IsHarmless g w e ⊎ ((n : Negative) × (n.edit ≡ e) × IsNegative g w n × (IsKept g w first before n → ⊥))

-- this negative is the first of the old edits that is kept behind these, and the new ones are those behind it
pub record IsNextKept (g : PlainGrammar) (w : List ℕ) (first : Option ℕ) (before : List Negative) (old : List Edit) (n : Negative) (new : List Edit) : Type 0 where
  pub skipped : List Edit
  pub edits : old ≡ skipped ++ n.edit ∷ new
  pub dropped : All (IsDropped g w first before) skipped
  pub negative : IsNegative g w n
  pub kept : IsKept g w first before n

-- what is found next among the old edits: a kept negative, or none, since each edit is dropped, and then none is left
abbrev pub FindsKept : PlainGrammar → List ℕ → Option ℕ → List Negative → List Edit → Option Negative → List Edit → Type 0
FindsKept g w first before old found new =
    MatchOption found (All (IsDropped g w first before) old × (new ≡ [])) (λ n. IsNextKept g w first before old n new)

-- what a keeper finds next, whichever kept negatives its counters tell of
abbrev pub FindsNextKept : Counters → Search → Option Negative → Search → Type 0
FindsNextKept counters old found new =
    (before : List Negative) → Tells counters before
    → FindsKept old.grammar old.base counters.first before old.edits found new.edits

-- the kept negatives of these edits, in order, behind these
pub record AreKeptOf (g : PlainGrammar) (w : List ℕ) (first : Option ℕ) (before : List Negative) (es : List Edit) (kept : List Negative) : Type 0 where
  pub negatives : List Negative
  pub all : AreNegatives g w es negatives
  pub are_kept : AreKept g w first before negatives kept

-- whether a negative of the search's list is kept, whichever kept negatives the counters tell of
abbrev pub KeepsNext : Counters → Search → Negative → Bool → Type 0
KeepsNext counters search n kept =
    (before : List Negative) → Tells counters before
    → (IsTrue kept ↔ IsKept search.grammar search.base counters.first before n)

-- the new counters tell of one negative more, if it is kept, or if one was found
abbrev pub TellsIf : Bool → Counters → Negative → Counters → Type 0
TellsIf kept old n new = (before : List Negative) → Tells old before → Tells new (behind_if kept before n)

abbrev pub TellsFound : Counters → Option Negative → Counters → Type 0
TellsFound old found new = (before : List Negative) → Tells old before → Tells new (behind_found found before)
