-- Kept negatives: of those with one poisoned pair, the first so many of each operator and left mark.
use Rattle.std.specs.Prelude.{Option, None, Some, ◌≡◌, ◌≢◌, ◌⊎◌, ℕ, ◌+◌, ◌*◌, ◌<◌, ◌≤◌, Bool, true, false, ◌==◌, ◌&&◌, List, [], ◌∷◌, ◌++◌, length, count_by, All, Contains}
use Rattle.cs_grammar.specs.declared.symbol.Mark.{Mark}
use Rattle.cs_grammar.specs.declared.symbol.Mark.TheVariants.{Begin, Token, End}
use Rattle.cs_grammar.specs.Grammar.{PlainGrammar}
use Rattle.cs_grammar.specs.Laws.{AtMostOne}
use Rattle.cs_grammar.specs.Sentence.{framed, IsSentence}
use Rattle.cs_goals.specs.Goal.{IsLeft}
use Rattle.cs_pairs.specs.Pairs.Pairs.{IsAdjacent}
use Rattle.cs_mutate.specs.declared.edit.Edit.{Edit}
use Rattle.cs_mutate.specs.declared.edit.Edit.TheVariants.{Delete, Insert, Replace, Swap}
use Rattle.cs_mutate.specs.declared.negative.Negative.{Negative}
use Rattle.cs_mutate.specs.Edit.{edited}
use Rattle.cs_mutate.specs.Poison.{IsPair}
use Rattle.cs_mutate.specs.Negatives.{AreNegatives}

-- each pair but the one at this place is adjacent
abbrev pub IsOnlyAt : PlainGrammar → List Mark → ℕ → Type 0
IsOnlyAt g marks at = (k : ℕ) (a b : Mark) → k ≢ at → IsPair marks k a b → IsAdjacent g a b

-- the poisoned pair of a negative is the only one
abbrev pub IsOnly : PlainGrammar → List ℕ → Negative → Type 0
IsOnly g w n = IsOnlyAt g (framed (edited w n.edit)) n.at

-- the operators, in the order of `Edit`
abbrev pub operator_of : Edit → ℕ
operator_of (Delete i) = 0
operator_of (Insert i t) = 1
operator_of (Replace i t) = 2
operator_of (Swap i) = 3

abbrev pub is_same_mark : Mark → Mark → Bool
is_same_mark Begin Begin = true
is_same_mark (Token a) (Token b) = a == b
is_same_mark End End = true
is_same_mark a b = false

-- two negatives have the same operator, and pairs with the same left mark
abbrev pub is_alike : Negative → Negative → Bool
is_alike n m = (operator_of n.edit == operator_of m.edit) && is_same_mark n.left m.left

-- A negative of w is kept behind these: its poisoned pair is the only one, and fewer than so many of these are alike. Without a
-- number each is kept.
abbrev pub IsKept : PlainGrammar → List ℕ → Option ℕ → List Negative → Negative → Type 0
IsKept g w None before n = Unit {0}
IsKept g w (Some most) before n = IsOnly g w n × (count_by (is_alike n) before < most)

-- those of w's negatives that are kept, in order, behind these, which come from other lists
abbrev pub AreKept : PlainGrammar → List ℕ → Option ℕ → List Negative → List Negative → List Negative → Type 0
AreKept g w first before [] kept = kept ≡ []
AreKept g w first before (n ∷ ns) kept =
    ((IsKept g w first before n → ⊥) × AreKept g w first before ns kept)
    ⊎ (IsKept g w first before n × (rest : List Negative) × (kept ≡ n ∷ rest) × AreKept g w first (before ++ n ∷ []) ns rest)

-- The laws of kept negatives.

-- there is at most one list of them
abbrev pub HaveOneList : PlainGrammar → List ℕ → Type 0
HaveOneList g w = (first : Option ℕ) (before ns : List Negative) → AtMostOne (AreKept g w first before ns)

-- it isn't so that there is none
abbrev pub HasSomeKept : PlainGrammar → List ℕ → Option ℕ → List Negative → List Negative → Type 0
HasSomeKept g w first before ns = ((kept : List Negative) → AreKept g w first before ns kept → ⊥) → ⊥

abbrev pub HaveSomeList : PlainGrammar → List ℕ → Type 0
HaveSomeList g w = (first : Option ℕ) (before ns : List Negative) → HasSomeKept g w first before ns

-- without a number all are kept
abbrev pub KeepsAll : PlainGrammar → List ℕ → Type 0
KeepsAll g w = (before ns kept : List Negative) → AreKept g w None before ns kept → kept ≡ ns

-- each is one of the negatives, and with a number its poisoned pair is the only one
abbrev pub IsSingle : PlainGrammar → List ℕ → Option ℕ → Negative → Type 0
IsSingle g w None n = Unit {0}
IsSingle g w (Some most) n = IsOnly g w n

abbrev pub AreOfThose : PlainGrammar → List ℕ → Option ℕ → Type 0
AreOfThose g w first =
    (before ns kept : List Negative) → AreKept g w first before ns kept
    → (n : Negative) → Contains kept n → Contains ns n × IsSingle g w first n

-- none of the kept ones of a list's edits is a sentence
abbrev pub AreOutside : PlainGrammar → List ℕ → Option ℕ → Type 0
AreOutside g w first =
    (es : List Edit) (before ns kept : List Negative) → AreNegatives g w es ns → AreKept g w first before ns kept
    → (n : Negative) → Contains kept n → IsSentence g (edited w n.edit) → ⊥

-- of any negative at most so many are alike
abbrev pub HasFewAlike : ℕ → List Negative → Type 0
HasFewAlike most ns = (n : Negative) → count_by (is_alike n) ns ≤ most

-- that stays so behind the kept ones
abbrev pub StaysFew : PlainGrammar → List ℕ → ℕ → Type 0
StaysFew g w most =
    (before ns kept : List Negative) → HasFewAlike most before → AreKept g w (Some most) before ns kept → HasFewAlike most (before ++ kept)

-- the left mark is the begin mark or a token of so many
abbrev pub HasLeft : ℕ → Negative → Type 0
HasLeft tokens n = IsLeft tokens n.left

-- so they are at most as many for each of the four operators and each left mark
abbrev pub IsBounded : ℕ → ℕ → List Negative → Type 0
IsBounded tokens most ns = All (HasLeft tokens) ns → HasFewAlike most ns → length ns ≤ most * (4 * (tokens + 1))
