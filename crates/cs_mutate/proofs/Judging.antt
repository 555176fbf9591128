-- A list without a poisoned pair is long, a sentence, or outside the language.
use Rattle.std.proofs.Common.{◌≤◌, ◌<◌, ◌⊎◌, ℕ, List, length, inl, inr}
use Rattle.std.proofs.lemmas.Bool.{cases_lt}
use Rattle.cs_grammar.specs.Grammar.{PlainGrammar}
use Rattle.cs_grammar.specs.Sentence.{IsSentence, framed}
use Rattle.cs_mutate.specs.Judged.{IsJudged, IsLong}
use Rattle.cs_mutate.specs.Poison.{HasNoPoison}

module _ (g : PlainGrammar) (list : List ℕ) where
  pub some_judged : (IsLong g list → ⊥) → (IsJudged g list → IsSentence g list → ⊥) → (IsJudged g list → (IsSentence g list → ⊥) → ⊥) → HasNoPoison g (framed list) → ⊥
  some_judged long inside outside harmless = by_length (cases_lt 2000 (length list))
    where
      judged : IsJudged g list → ⊥
      judged is = outside is (inside is)

      by_length : (2000 < length list) ⊎ (length list ≤ 2000) → ⊥
      by_length (inl more) = long (record { harmless = harmless; long = more })
      by_length (inr few) = judged (record { harmless = harmless; short = few })
