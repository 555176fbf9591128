-- The classes of slips, and which of their lists are outside the language for sure.
use Rattle.std.specs.Prelude.{◌≡◌, ◌⊎◌, ℕ, ◌≤◌, Any, Bool, true, false, IsTrue, List, [], ◌∷◌, ◌++◌, length}
use Rattle.cs_grammar.specs.Grammar.{PlainGrammar}
use Rattle.cs_grammar.specs.Sentence.{IsSentence, framed}
use Rattle.cs_grammar.specs.Weights.{Weighed}
use Rattle.cs_mutate.specs.Judged.{IsJudged, IsLong}
use Rattle.cs_mutate.specs.Poison.{IsFirstPoisoned, IsPoisonedAt}
use Rattle.cs_wrong.specs.Slips.Lists.{HasLarge, HasNone, IsListOf}
use Rattle.cs_wrong.specs.declared.classes.class.SlipClass.{SlipClass}
use Rattle.cs_wrong.specs.declared.classes.class.SlipClass.TheVariants.{Nothing, Large, Again, Pair, Long, Sentence, Outside}
use Rattle.cs_wrong.specs.declared.slips.slip.Slip.{Slip}

-- each member with those before it, where others stand in front of all
abbrev pub behind : {A : Type 0} → List A → List A → List (List A × A)
behind before [] = []
behind before (x ∷ xs) = (before, x) ∷ behind (before ++ x ∷ []) xs

-- an earlier slip has the same list
abbrev pub IsMet : Weighed → List Slip → List ℕ → Type 0
IsMet v earlier list = Any (λ slip. IsListOf v slip list) earlier

-- the class of a list that no earlier slip has
abbrev pub IsListClass : PlainGrammar → List ℕ → SlipClass → Type 0
IsListClass g list (Pair left right at) = IsFirstPoisoned g (framed list) at left right
IsListClass g list Long = IsLong g list
IsListClass g list Sentence = IsJudged g list × IsSentence g list
IsListClass g list Outside = IsJudged g list × (IsSentence g list → ⊥)
IsListClass g list Nothing = ⊥
IsListClass g list Large = ⊥
IsListClass g list Again = ⊥

-- the list of the slip, which no earlier one has, and its class
pub record IsNew (v : Weighed) (earlier : List Slip) (slip : Slip) (class : SlipClass) (list : List ℕ) : Type 0 where
  pub is : IsListOf v slip list
  pub new : IsMet v earlier list → ⊥
  pub class_is : IsListClass v.grammar list class

-- the class of a slip behind earlier ones, and its list, where it has one
abbrev pub IsTold : Weighed → List Slip → Slip → SlipClass → List ℕ → Type 0
IsTold v earlier slip Nothing list = HasNone v slip × (list ≡ [])
IsTold v earlier slip Large list = HasLarge v slip × (list ≡ [])
IsTold v earlier slip Again list = IsListOf v slip list × IsMet v earlier list
IsTold v earlier slip (Pair left right at) list = IsNew v earlier slip (Pair left right at) list
IsTold v earlier slip Long list = IsNew v earlier slip Long list
IsTold v earlier slip Sentence list = IsNew v earlier slip Sentence list
IsTold v earlier slip Outside list = IsNew v earlier slip Outside list

-- ---- which class it is

abbrev pub is_nothing : SlipClass → Bool
is_nothing Nothing = true
is_nothing Large = false
is_nothing Again = false
is_nothing (Pair left right at) = false
is_nothing Long = false
is_nothing Sentence = false
is_nothing Outside = false

abbrev pub is_large : SlipClass → Bool
is_large Nothing = false
is_large Large = true
is_large Again = false
is_large (Pair left right at) = false
is_large Long = false
is_large Sentence = false
is_large Outside = false

abbrev pub is_again : SlipClass → Bool
is_again Nothing = false
is_again Large = false
is_again Again = true
is_again (Pair left right at) = false
is_again Long = false
is_again Sentence = false
is_again Outside = false

abbrev pub is_long : SlipClass → Bool
is_long Nothing = false
is_long Large = false
is_long Again = false
is_long (Pair left right at) = false
is_long Long = true
is_long Sentence = false
is_long Outside = false

abbrev pub is_sentence : SlipClass → Bool
is_sentence Nothing = false
is_sentence Large = false
is_sentence Again = false
is_sentence (Pair left right at) = false
is_sentence Long = false
is_sentence Sentence = true
is_sentence Outside = false

-- those whose lists are written
abbrev pub is_wrong : SlipClass → Bool
is_wrong Nothing = false
is_wrong Large = false
is_wrong Again = false
is_wrong (Pair left right at) = true
is_wrong Long = false
is_wrong Sentence = false
is_wrong Outside = true

-- ---- laws

-- some pair of the framed list is poisoned, or the list is short and no sentence
abbrev pub IsOutsideForSure : PlainGrammar → List ℕ → Type 0
IsOutsideForSure g list = ((at : ℕ) × IsPoisonedAt g (framed list) at) ⊎ ((length list ≤ 2000) × (IsSentence g list → ⊥))

-- a slip whose list is written has no sentence
abbrev pub IsNoSentence : Weighed → List Slip → Slip → Type 0
IsNoSentence v earlier slip =
    (class : SlipClass) (list : List ℕ) → IsTold v earlier slip class list → IsTrue (is_wrong class) → IsSentence v.grammar list → ⊥
