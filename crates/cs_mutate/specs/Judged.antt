-- Lists without a poisoned pair, by their length: of those that are short enough trees tell whether they are sentences.
use Rattle.std.specs.Prelude.{ℕ, ◌<◌, ◌≤◌, List, length}
use Rattle.cs_grammar.specs.Grammar.{PlainGrammar}
use Rattle.cs_grammar.specs.Sentence.{framed}
use Rattle.cs_mutate.specs.Poison.{HasNoPoison}

-- no pair of the framed list is poisoned, and the list is short enough for trees to be sought
pub record IsJudged (g : PlainGrammar) (list : List ℕ) : Type 0 where
  pub harmless : HasNoPoison g (framed list)
  pub short : length list ≤ 2000

-- no pair of the framed list is poisoned, and the list is longer
pub record IsLong (g : PlainGrammar) (list : List ℕ) : Type 0 where
  pub harmless : HasNoPoison g (framed list)
  pub long : 2000 < length list
