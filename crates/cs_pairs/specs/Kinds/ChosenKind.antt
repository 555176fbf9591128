-- The chosen tree of a kind and a symbol: a least one, and among the least ones the one with the lowest rules and then the lowest
-- place of the child that is of the kind itself, from the root down.
use Rattle.std.specs.Prelude.{◌≡◌, ℕ, ◌+◌, ◌<◌, ◌≤◌, ◌⊎◌, List, [], ◌∷◌, ◌++◌}
use Rattle.cs_grammar.specs.declared.symbol.Symbol.{Symbol}
use Rattle.cs_grammar.specs.declared.symbol.Symbol.TheVariants.{Token, Nonterminal}
use Rattle.cs_grammar.specs.Grammar.{Production, PlainGrammar, IsRule}
use Rattle.cs_grammar.specs.Weights.{Measure}
use Rattle.cs_grammar.specs.Tree.{Tree, Leaf, Node, Forest, Bare, Grown, size, sizes, codes_of}
use Rattle.cs_pairs.specs.declared.kinds.kind.TreeKind.{TreeKind}
use Rattle.cs_pairs.specs.Kinds.Kinds.{IsOfKind, IsTreeOfKind, before, behind}
use Rattle.cs_pairs.specs.Kinds.Ways.{AreHere, AreLater, joint_size}

-- no tree of x that is of the kind is smaller than n, and none of size n has a rule below r at its root
pub record IsFirstOfKind (w : Measure) (g : PlainGrammar) (k : TreeKind) (x : Symbol) (r n : ℕ) : Type 0 where
  pub least : (u : Tree) → IsTreeOfKind g k x u → n ≤ size w u
  pub lowest : (q : ℕ) → (f : Forest) → IsTreeOfKind g k x (Node q f) → size w (Node q f) ≡ n → r ≤ q

-- lists whose first tree is of the kind itself are larger than n
abbrev pub NoneHere : Measure → PlainGrammar → TreeKind → Symbol → List Symbol → ℕ → Type 0
NoneHere w g k x xs n = (p : Tree × Forest) → AreHere g k x xs p → n < joint_size w p

-- lists whose others are of the kind are no smaller than n
abbrev pub NoneLess : Measure → PlainGrammar → TreeKind → Symbol → List Symbol → ℕ → Type 0
NoneLess w g k x xs n = (p : Tree × Forest) → AreLater g k x xs p → n ≤ joint_size w p

-- A leaf is chosen where it is of the kind. A node is a least tree, its rule the lowest at the root of a least tree, and its
-- children are the chosen ones of the rule's right side. In a chosen list of trees the first tree is of the kind itself where
-- some least list has it so, and else the others are.
abbrev mutual
  pub IsChosenOfKind : Measure → PlainGrammar → TreeKind → Symbol → Tree → Type 0
  IsChosenOfKind w g k x (Leaf t) = (x ≡ Token t) × IsOfKind k (t ∷ [])
  IsChosenOfKind w g k x (Node r children) =
      (p : Production) × IsRule g r p × (x ≡ Nonterminal p.left) × IsFirstOfKind w g k x r (size w (Node r children))
      × AreChosenOfKind w g k p.right children

  pub AreChosenOfKind : Measure → PlainGrammar → TreeKind → List Symbol → Forest → Type 0
  AreChosenOfKind w g k [] Bare = IsOfKind k []
  AreChosenOfKind w g k (x ∷ xs) (Grown t f) =
      (IsChosenOfKind w g k x t × AreChosenOfKind w g (behind k) xs f × NoneLess w g k x xs (size w t + sizes w f))
      ⊎ (IsChosenOfKind w g (before k) x t × AreChosenOfKind w g k xs f × NoneHere w g k x xs (size w t + sizes w f))
  AreChosenOfKind w g k [] (Grown t f) = ⊥
  AreChosenOfKind w g k (x ∷ xs) Bare = ⊥

-- the codes of the chosen trees of these symbols, together of the kind, come behind what stood there
pub record AppendsOfKind (w : Measure) (g : PlainGrammar) (k : TreeKind) (xs : List Symbol) (old new : List ℕ) : Type 0 where
  pub trees : Forest
  pub chosen : AreChosenOfKind w g k xs trees
  pub text : new ≡ old ++ codes_of trees
