-- What numbers may have, by which closed sets are collected. Working words of proofs.
use Rattle.std.specs.Prelude.{ℕ, List}
use Rattle.std.specs.List.{AllZip}
use Rattle.cs_goals.specs.Goals.{token_marks}
use Rattle.cs_grammar.specs.declared.symbol.Mark.{Mark}
use Rattle.cs_grammar.specs.declared.symbol.Mark.TheVariants.{Token}
use Rattle.cs_grammar.specs.Grammar.{IsNumberOf, PlainGrammar}
use Rattle.cs_pairs.specs.Pairs.Closed.{IsFirstOf, IsLastOf, YieldsNothing}
use Rattle.cs_verdicts.specs.declared.closed.collecting.Edge.{Edge}
use Rattle.cs_verdicts.specs.declared.closed.collecting.Edge.TheVariants.{First, Last}
use Rattle.cs_verdicts.specs.declared.closed.collecting.Property.{Property}
use Rattle.cs_verdicts.specs.declared.closed.collecting.Property.TheVariants.{Productive, Reachable, Empty, AtEdge}
use Rattle.cs_pairs.specs.Pairs.Pairs.{IsAdjacent}
use Rattle.cs_verdicts.specs.Closed.Closed.{AreEdges, AreNext, AreThose, HasContext, HasTree, numbers}

-- a token stands at this edge of a nonterminal's yields
abbrev pub IsAtEdge : PlainGrammar → Edge → ℕ → ℕ → Type 0
IsAtEdge g First n t = IsFirstOf g n t
IsAtEdge g Last n t = IsLastOf g n t

-- the nonterminal has the property, or the token has it
abbrev pub Has : PlainGrammar → Property → ℕ → Type 0
Has g Productive n = HasTree g n
Has g Reachable n = HasContext g n
Has g Empty n = YieldsNothing g n
Has g (AtEdge edge n) t = IsAtEdge g edge n t

-- how many numbers may have it
abbrev pub last_of : PlainGrammar → Property → ℕ
last_of g Productive = g.nonterminals
last_of g Reachable = g.nonterminals
last_of g Empty = g.nonterminals
last_of g (AtEdge edge n) = g.tokens

-- the nonterminal that it speaks of is of the grammar
abbrev pub IsProperty : PlainGrammar → Property → Type 0
IsProperty g Productive = Unit {0}
IsProperty g Reachable = Unit {0}
IsProperty g Empty = Unit {0}
IsProperty g (AtEdge edge n) = IsNumberOf g.nonterminals n

-- those of the numbers up to the last that have it
abbrev pub AreAllWith : PlainGrammar → Property → ℕ → List ℕ → Type 0
AreAllWith g property last list = AreThose (Has g property) (numbers last) list

-- for each nonterminal the tokens at this edge of its yields
abbrev pub AreAllEdges : PlainGrammar → Edge → List (List ℕ) → Type 0
AreAllEdges g edge sets = AreEdges g (IsAtEdge g edge) sets

-- the tokens that are adjacent behind a mark
abbrev pub AreNextTokens : PlainGrammar → Mark → List Mark → Type 0
AreNextTokens g mark marks = AreThose (IsAdjacent g mark) (token_marks g.tokens) marks

-- for each token the marks that are adjacent behind it
abbrev pub AreAllNext : PlainGrammar → List (List Mark) → Type 0
AreAllNext g sets = AllZip (λ t. AreNext g (Token t)) (numbers g.tokens) sets
