-- The classes of edits of a base: those with a poisoned pair, and of the others those that are too long to be judged by trees,
-- sentences, and edits outside the language.
use Rattle.std.specs.Prelude.{ℕ, Bool, true, false, List}
use Rattle.cs_deep.specs.declared.edits.class.EditClass.{EditClass}
use Rattle.cs_deep.specs.declared.edits.class.EditClass.TheVariants.{Negative, Long, Sentence, Outside}
use Rattle.cs_grammar.specs.Grammar.{PlainGrammar}
use Rattle.cs_grammar.specs.Laws.{AtMostOne}
use Rattle.cs_grammar.specs.Sentence.{IsSentence, framed}
use Rattle.cs_io.specs.Asked.{IsNotWithout}
use Rattle.cs_mutate.specs.Edit.{edited}
use Rattle.cs_mutate.specs.Judged.{IsJudged, IsLong}
use Rattle.cs_mutate.specs.Poison.{IsPoisonedAt}
use Rattle.cs_mutate.specs.declared.edit.Edit.{Edit}

-- some pair of the framed list is poisoned
abbrev pub IsPoisoned : PlainGrammar → List ℕ → Type 0
IsPoisoned g list = (at : ℕ) × IsPoisonedAt g (framed list) at

-- the class of an edited list
abbrev pub IsListClass : PlainGrammar → List ℕ → EditClass → Type 0
IsListClass g list Negative = IsPoisoned g list
IsListClass g list Long = IsLong g list
IsListClass g list Sentence = IsJudged g list × IsSentence g list
IsListClass g list Outside = IsJudged g list × (IsSentence g list → ⊥)

-- the class of an edit of a base
abbrev pub IsClass : PlainGrammar → List ℕ → Edit → EditClass → Type 0
IsClass g base edit class = IsListClass g (edited base edit) class

-- ---- laws

abbrev pub HasOneClass : PlainGrammar → List ℕ → Type 0
HasOneClass g base = (edit : Edit) → AtMostOne (IsClass g base edit)

abbrev pub HasSomeClass : PlainGrammar → List ℕ → Type 0
HasSomeClass g base = (edit : Edit) → IsNotWithout (IsClass g base edit)

-- ---- which class it is

abbrev pub is_negative : EditClass → Bool
is_negative Negative = true
is_negative Long = false
is_negative Sentence = false
is_negative Outside = false

abbrev pub is_long : EditClass → Bool
is_long Negative = false
is_long Long = true
is_long Sentence = false
is_long Outside = false

abbrev pub is_sentence : EditClass → Bool
is_sentence Negative = false
is_sentence Long = false
is_sentence Sentence = true
is_sentence Outside = false

abbrev pub is_outside : EditClass → Bool
is_outside Negative = false
is_outside Long = false
is_outside Sentence = false
is_outside Outside = true
