-- Which trees meet a chain: context-dependent rule coverage (Lämmel 2001, "Grammar Testing"), one step deeper.
use Rattle.std.specs.Prelude.{◌≡◌, ◌-◌, ◌<◌, ◌⊎◌, Some, slice_get}
use Rattle.cs_grammar.specs.declared.symbol.Symbol.TheVariants.{Nonterminal}
use Rattle.cs_grammar.specs.Grammar.{PlainGrammar}
use Rattle.cs_grammar.specs.Tree.{Tree, Leaf, Node, Forest, Bare, Grown, IsTree}
use Rattle.cs_goals.specs.Meets.{trees, IsChild}
use Rattle.cs_chain.specs.declared.chains.chain.Chain.{Chain}

-- the child at the place is a node with the middle rule, whose child at the spot is a node with the inner rule
pub record IsLinked (c : Chain) (children : Forest) : Type 0 where
  pub grandchildren : Forest
  pub above_zero : 0 < c.place
  pub at : slice_get (trees children) (c.place - 1) ≡ Some (Node c.middle grandchildren)
  pub under : IsChild c.spot c.inner grandchildren

-- some node with the outer rule has such children
abbrev mutual
  pub MeetsChain : Chain → Tree → Type 0
  MeetsChain c (Leaf t) = ⊥
  MeetsChain c (Node r children) = ((r ≡ c.outer) × IsLinked c children) ⊎ SomeMeetsChain c children

  pub SomeMeetsChain : Chain → Forest → Type 0
  SomeMeetsChain c Bare = ⊥
  SomeMeetsChain c (Grown t f) = MeetsChain c t ⊎ SomeMeetsChain c f

-- a tree of the start symbol that meets the chain
abbrev pub IsMet : PlainGrammar → Chain → Tree → Type 0
IsMet g c t = IsTree g (Nonterminal g.start) t × MeetsChain c t
