-- Which marks may stand side by side: the pairs of neighbours over all framed sentences, as in Raselimo, Taljaard and Fischer 2019,
-- "Breaking Parsers: Mutation-based Generation of Programs with Guaranteed Syntax Errors".
use Rattle.std.specs.Prelude.{◌≡◌, ℕ, List, length}
use Rattle.cs_grammar.specs.declared.symbol.Mark.{Mark}
use Rattle.cs_grammar.specs.declared.symbol.Mark.TheVariants.{Token}
use Rattle.cs_grammar.specs.declared.symbol.Symbol.TheVariants.{Nonterminal}
use Rattle.cs_grammar.specs.Grammar.{PlainGrammar, IsNumberOf}
use Rattle.cs_grammar.specs.Weights.{Measure}
use Rattle.cs_grammar.specs.Tree.{Tree, IsTree, size}
use Rattle.cs_grammar.specs.Sentence.{IsSentence, framed, IsFollowed}
use Rattle.cs_least.specs.declared.cost.cost.Cost.{Cost}
use Rattle.cs_goals.specs.declared.goal.Goal.TheVariants.{Pair}
use Rattle.cs_goals.specs.Meets.{Meets}
use Rattle.cs_pairs.specs.Kinds.Filled.{IsFilled}
use Rattle.cs_pairs.specs.Kinds.Tables.{row_in}

-- some framed sentence has a directly followed by b
abbrev pub IsAdjacent : PlainGrammar → Mark → Mark → Type 0
IsAdjacent g a b = (tokens : List ℕ) × IsSentence g tokens × IsFollowed a b (framed tokens)

-- a tree of the start symbol whose framed yield has a directly followed by b
abbrev pub HasPair : PlainGrammar → Mark → Mark → Tree → Type 0
HasPair g a b t = IsTree g (Nonterminal g.start) t × Meets (Pair a b) t

-- a row that says what the pairs cost whose second token is b
abbrev pub ArePairs : Measure → PlainGrammar → ℕ → List Cost → Type 0
ArePairs w g b row = IsFilled w.limit (λ a. HasPair g (Token a) (Token b)) (size w) g.tokens row

-- such rows for the first so many tokens
pub record ArePairRows (w : Measure) (g : PlainGrammar) (count : ℕ) (rows : List (List Cost)) : Type 0 where
  pub many : length rows ≡ count
  pub each : (b : ℕ) → IsNumberOf count b → ArePairs w g b (row_in rows b)
