-- The exact sets of a grammar: what all its trees, contexts and sentences show, and no more.
use Rattle.std.specs.Prelude.{◌≡◌, ◌↔◌, ℕ, List, [], ◌∷◌, ◌++◌}
use Rattle.cs_grammar.specs.declared.symbol.Mark.{Mark}
use Rattle.cs_grammar.specs.declared.symbol.Symbol.TheVariants.{Nonterminal}
use Rattle.cs_grammar.specs.Grammar.{PlainGrammar}
use Rattle.cs_grammar.specs.Tree.{Tree, IsTree, yield}
use Rattle.cs_grammar.specs.Context.{Context, IsContext}
use Rattle.cs_grammar.specs.Sentence.{IsSentence, framed, IsFollowed}
use Rattle.cs_closed.specs.Closed.Sets.{PlainSets, IsProductive, IsReachable, IsEmpty, IsFirst, IsLast, IsNext}

-- some tree of the nonterminal yields these tokens
abbrev pub Yields : PlainGrammar → ℕ → List ℕ → Type 0
Yields g n tokens = (t : Tree) × IsTree g (Nonterminal n) t × (tokens ≡ yield t)

abbrev pub HasTree : PlainGrammar → ℕ → Type 0
HasTree g n = (t : Tree) × IsTree g (Nonterminal n) t

abbrev pub HasContext : PlainGrammar → ℕ → Type 0
HasContext g n = (c : Context) × IsContext g (Nonterminal n) c

abbrev pub YieldsFirst : PlainGrammar → ℕ → ℕ → Type 0
YieldsFirst g n b = (rest : List ℕ) × Yields g n (b ∷ rest)

abbrev pub YieldsLast : PlainGrammar → ℕ → ℕ → Type 0
YieldsLast g n a = (init : List ℕ) × Yields g n (init ++ a ∷ [])

-- some framed sentence has a directly followed by b
abbrev pub IsAdjacent : PlainGrammar → Mark → Mark → Type 0
IsAdjacent g a b = (tokens : List ℕ) × IsSentence g tokens × IsFollowed a b (framed tokens)

pub record AreExact (g : PlainGrammar) (s : PlainSets) : Type 0 where
  pub productive : (n : ℕ) → IsProductive s n ↔ HasTree g n
  pub reachable : (n : ℕ) → IsReachable s n ↔ HasContext g n
  pub empty : (n : ℕ) → IsEmpty s n ↔ Yields g n []
  pub first : (n b : ℕ) → IsFirst s n b ↔ YieldsFirst g n b
  pub last : (n a : ℕ) → IsLast s n a ↔ YieldsLast g n a
  pub next : (a b : Mark) → IsNext s a b ↔ IsAdjacent g a b
