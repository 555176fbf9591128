-- Derivation trees, with their sizes, codes and yields: the usual trees of a context-free grammar. A tree's code is its
-- leftmost derivation.
use Rattle.std.specs.Prelude.{◌≡◌, ℕ, ◌+◌, List, [], ◌∷◌, ◌++◌}
use Rattle.cs_grammar.specs.declared.symbol.Symbol.{Symbol}
use Rattle.cs_grammar.specs.declared.symbol.Symbol.TheVariants.{Token, Nonterminal}
use Rattle.cs_grammar.specs.Grammar.{Production, PlainGrammar, IsRule}
use Rattle.cs_grammar.specs.Weights.{Measure, number}

-- a leaf with a token, or a node with a rule number and a list of trees
mutual
  pub data Tree : Type 0 where
    Leaf : (token : ℕ) → Tree
    Node : (rule : ℕ) → (children : Forest) → Tree

  -- a list of trees
  pub data Forest : Type 0 where
    Bare : Forest
    Grown : (first : Tree) → (others : Forest) → Forest

-- A leaf is a tree of its token. A node of rule r is a tree of r's left side where its children are, in
-- order, trees of the symbols of r's right side.
abbrev mutual
  pub IsTree : PlainGrammar → Symbol → Tree → Type 0
  IsTree g x (Leaf t) = x ≡ Token t
  IsTree g x (Node r children) =
      (p : Production) × IsRule g r p × (x ≡ Nonterminal p.left) × AreTrees g p.right children

  pub AreTrees : PlainGrammar → List Symbol → Forest → Type 0
  AreTrees g [] Bare = Unit {0}
  AreTrees g (x ∷ xs) (Grown t f) = IsTree g x t × AreTrees g xs f
  AreTrees g [] (Grown t f) = ⊥
  AreTrees g (x ∷ xs) Bare = ⊥

-- The size of a tree, which is its weight: its token's number for a leaf, and 1 plus its children's sizes for a node.
abbrev mutual
  pub size : Measure → Tree → ℕ
  size w (Leaf t) = number w t
  size w (Node r children) = 1 + sizes w children

  pub sizes : Measure → Forest → ℕ
  sizes w Bare = 0
  sizes w (Grown t f) = size w t + sizes w f

-- the rule numbers in preorder, which is the leftmost derivation
abbrev mutual
  pub code : Tree → List ℕ
  code (Leaf t) = []
  code (Node r children) = r ∷ codes_of children

  pub codes_of : Forest → List ℕ
  codes_of Bare = []
  codes_of (Grown t f) = code t ++ codes_of f

-- the tokens from left to right
abbrev mutual
  pub yield : Tree → List ℕ
  yield (Leaf t) = t ∷ []
  yield (Node r children) = yields children

  pub yields : Forest → List ℕ
  yields Bare = []
  yields (Grown t f) = yield t ++ yields f

-- a derivation of x: the code of a tree of x
abbrev pub IsDerivation : PlainGrammar → Symbol → List ℕ → Type 0
IsDerivation g x rules = (t : Tree) × IsTree g x t × (rules ≡ code t)

-- a derivation of the grammar: of its start symbol
abbrev pub IsDerivationOf : PlainGrammar → List ℕ → Type 0
IsDerivationOf g rules = IsDerivation g (Nonterminal g.start) rules

-- no code of a tree of x goes on behind the code of this tree
abbrev pub IsPrefixFree : PlainGrammar → Symbol → Tree → Type 0
IsPrefixFree g x t = (u : Tree) (more : List ℕ) → IsTree g x u → code u ≡ code t ++ more → (t ≡ u) × (more ≡ [])
