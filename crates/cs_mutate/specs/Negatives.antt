-- Negatives: the edits of a list that give it a poisoned pair.
use Rattle.std.specs.Prelude.{Option, MatchOption, ◌≡◌, ◌↔◌, ℕ, ◌≤◌, ◌⊎◌, Bool, IsTrue, List, [], ◌∷◌, ◌++◌, length, All}
use Rattle.cs_grammar.specs.Grammar.{PlainGrammar, IsNumberOf}
use Rattle.cs_grammar.specs.Laws.{AtMostOne}
use Rattle.std.specs.List.{Contains}
use Rattle.cs_grammar.specs.Sentence.{framed, IsSentence}
use Rattle.cs_goals.specs.Goals.{HasExactly}
use Rattle.cs_mutate.specs.declared.edit.Edit.{Edit}
use Rattle.cs_mutate.specs.declared.negative.Negative.{Negative}
use Rattle.cs_choices.specs.declared.operators.Operators.{Operators}
use Rattle.cs_mutate.specs.Edit.{Fits, edited}
use Rattle.cs_mutate.specs.Edits.{edits}
use Rattle.cs_mutate.specs.Poison.{HasNoPoison, IsFirstPoisoned}

-- the framed result of the edit has no poisoned pair
abbrev pub IsHarmless : PlainGrammar → List ℕ → Edit → Type 0
IsHarmless g w e = HasNoPoison g (framed (edited w e))

-- the framed result of the edit has a poisoned pair, and this is the first
abbrev pub IsNegative : PlainGrammar → List ℕ → Negative → Type 0
IsNegative g w n = IsFirstPoisoned g (framed (edited w n.edit)) n.at n.left n.right

-- the negatives of a list for these edits, in order: one for each edit that isn't harmless
abbrev pub AreNegatives : PlainGrammar → List ℕ → List Edit → List Negative → Type 0
AreNegatives g w [] ns = ns ≡ []
AreNegatives g w (e ∷ es) ns =
    (IsHarmless g w e × AreNegatives g w es ns)
    ⊎ ((n : Negative) × (rest : List Negative) × (ns ≡ n ∷ rest) × (n.edit ≡ e) × IsNegative g w n × AreNegatives g w es rest)

-- this negative is the first of the old edits, and the new ones are those behind it
pub record IsNext (g : PlainGrammar) (w : List ℕ) (old : List Edit) (n : Negative) (new : List Edit) : Type 0 where
  pub skipped : List Edit
  pub edits : old ≡ skipped ++ n.edit ∷ new
  pub harmless : All (IsHarmless g w) skipped
  pub negative : IsNegative g w n

-- what is found next among the old edits: a negative, and the new edits are those behind it; or none, since each is
-- harmless, and then none is left
abbrev pub Finds : PlainGrammar → List ℕ → List Edit → Option Negative → List Edit → Type 0
Finds g w old found new =
    MatchOption found (All (IsHarmless g w) old × (new ≡ [])) (λ n. IsNext g w old n new)

-- what a search for negatives has still to look at: edits of a list, by the sentences of a grammar
pub record Search : Type 0 where
  pub grammar : PlainGrammar
  pub base : List ℕ
  pub edits : List Edit

-- a search that has looked at none of the edits for the chosen operators
abbrev pub search_of : PlainGrammar → List ℕ → Operators → Search
search_of g w c = record { grammar = g; base = w; edits = edits g.tokens w c }

-- what a search finds next
abbrev pub FindsNext : Search → Option Negative → Search → Type 0
FindsNext old found new = Finds old.grammar old.base old.edits found new.edits

-- the edit fits the list of the search
abbrev pub FitsBase : Search → Edit → Type 0
FitsBase s e = Fits (length s.base) s.grammar.tokens e

-- what the search knows of its list: whether it has no poisoned pair when framed, and that it can be edited
pub record IsSearch (sound : Bool) (s : Search) : Type 0 where
  pub known : IsTrue sound ↔ HasNoPoison s.grammar (framed s.base)
  pub short : length s.base ≤ 1000000
  pub tokens : All (IsNumberOf s.grammar.tokens) s.base
  pub fits : All (FitsBase s) s.edits

-- The laws of the list of negatives.

-- what is found next stands in front of the negatives of the edits that are left
abbrev pub ComesFirst : PlainGrammar → List ℕ → Type 0
ComesFirst g w = (old : List Edit) (n : Negative) (new : List Edit) → IsNext g w old n new
    → (rest : List Negative) → AreNegatives g w new rest → AreNegatives g w old (n ∷ rest)

-- where each edit is harmless there is no negative
abbrev pub HasNone : PlainGrammar → List ℕ → List Edit → Type 0
HasNone g w es = All (IsHarmless g w) es → AreNegatives g w es []

-- there is at most one list of the negatives
abbrev pub HasOneList : PlainGrammar → List ℕ → List Edit → Type 0
HasOneList g w es = AtMostOne (AreNegatives g w es)

-- the list has the negative of each edit that has one, and nothing else
abbrev pub HasEachNegative : PlainGrammar → List ℕ → List Edit → Type 0
HasEachNegative g w es = (ns : List Negative) → AreNegatives g w es ns
    → HasExactly ns (λ n. Contains es n.edit × IsNegative g w n)

-- no negative's list is a sentence
abbrev pub IsOutside : PlainGrammar → List ℕ → Negative → Type 0
IsOutside g w n = IsNegative g w n → IsSentence g (edited w n.edit) → ⊥
