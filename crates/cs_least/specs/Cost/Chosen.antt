-- The chosen tree of a symbol: a least one, and among the least ones the one with the lowest rules, from the root down.
use Rattle.std.specs.Prelude.{◌≡◌, ℕ, ◌≤◌, List, [], ◌∷◌, ◌++◌}
use Rattle.cs_grammar.specs.declared.symbol.Symbol.{Symbol}
use Rattle.cs_grammar.specs.declared.symbol.Symbol.TheVariants.{Token, Nonterminal}
use Rattle.cs_grammar.specs.Grammar.{Production, PlainGrammar, IsRule}
use Rattle.cs_grammar.specs.Laws.{AtLeastOne}
use Rattle.cs_grammar.specs.Weights.{Measure, Weighed}
use Rattle.cs_grammar.specs.Tree.{Tree, Leaf, Node, Forest, Bare, Grown, IsTree, size, code, codes_of}

-- no tree of x is smaller than n, and none of size n has a rule below r at its root
pub record IsFirst (w : Measure) (g : PlainGrammar) (x : Symbol) (r n : ℕ) : Type 0 where
  pub least : (u : Tree) → IsTree g x u → n ≤ size w u
  pub lowest : (q : ℕ) → (f : Forest) → IsTree g x (Node q f) → size w (Node q f) ≡ n → r ≤ q

-- A token's chosen tree is its leaf. A nonterminal's is a least tree whose rule is the lowest at the root of a least tree,
-- and whose children are the chosen trees of the rule's right side.
abbrev mutual
  pub IsChosen : Measure → PlainGrammar → Symbol → Tree → Type 0
  IsChosen w g x (Leaf t) = x ≡ Token t
  IsChosen w g x (Node r children) =
      (p : Production) × IsRule g r p × (x ≡ Nonterminal p.left) × IsFirst w g x r (size w (Node r children))
      × AreChosen w g p.right children

  pub AreChosen : Measure → PlainGrammar → List Symbol → Forest → Type 0
  AreChosen w g [] Bare = Unit {0}
  AreChosen w g (x ∷ xs) (Grown t f) = IsChosen w g x t × AreChosen w g xs f
  AreChosen w g [] (Grown t f) = ⊥
  AreChosen w g (x ∷ xs) Bare = ⊥

-- some tree is of x, and some is chosen
abbrev pub HasTree : PlainGrammar → Symbol → Type 0
HasTree g x = AtLeastOne (IsTree g x)

abbrev pub HasChosen : Measure → PlainGrammar → Symbol → Type 0
HasChosen w g x = AtLeastOne (IsChosen w g x)

-- a tree of x, and no tree of x is smaller
pub record IsLeastTree (w : Measure) (g : PlainGrammar) (x : Symbol) (u : Tree) : Type 0 where
  pub is_tree : IsTree g x u
  pub least : (t : Tree) → IsTree g x t → size w u ≤ size w t

abbrev pub ChosenIsLeast : Measure → PlainGrammar → Symbol → Type 0
ChosenIsLeast w g x = (u : Tree) → IsChosen w g x u → IsLeastTree w g x u

-- the code of the chosen tree of x comes behind what stood there
pub record AppendsChosen (w : Measure) (g : PlainGrammar) (x : Symbol) (old new : List ℕ) : Type 0 where
  pub tree : Tree
  pub chosen : IsChosen w g x tree
  pub text : new ≡ old ++ code tree

-- the codes of the chosen trees of these symbols come behind what stood there
pub record AppendsAllChosen (w : Measure) (g : PlainGrammar) (xs : List Symbol) (old new : List ℕ) : Type 0 where
  pub trees : Forest
  pub chosen : AreChosen w g xs trees
  pub text : new ≡ old ++ codes_of trees

abbrev pub WritesChosen : Weighed → Symbol → List ℕ → List ℕ → Type 0
WritesChosen v x old new = AppendsChosen v.weights v.grammar x old new

abbrev pub WritesAllChosen : Weighed → List Symbol → List ℕ → List ℕ → Type 0
WritesAllChosen v xs old new = AppendsAllChosen v.weights v.grammar xs old new
