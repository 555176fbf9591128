-- Which trees meet a goal: rule coverage (Purdom 1972, "A sentence generator for testing parsers"), context-dependent
-- rule coverage (Lämmel 2001, "Grammar Testing"), and pairs of neighbours in the framed yield.
use Rattle.std.specs.Prelude.{◌≡◌, ℕ, ◌-◌, ◌<◌, ◌⊎◌, List, [], ◌∷◌, Some, slice_get}
use Rattle.cs_grammar.specs.declared.symbol.Symbol.TheVariants.{Nonterminal}
use Rattle.cs_grammar.specs.Grammar.{PlainGrammar}
use Rattle.cs_grammar.specs.Tree.{Tree, Leaf, Node, Forest, Bare, Grown, IsTree, code, yield}
use Rattle.cs_grammar.specs.Sentence.{framed, IsFollowed}
use Rattle.cs_grammar.specs.Uses.{UsesRule}
use Rattle.cs_goals.specs.declared.goal.Goal.{Goal}
use Rattle.cs_goals.specs.declared.goal.Goal.TheVariants.{Rule, Context, Pair}

-- the trees of a forest
abbrev pub trees : Forest → List Tree
trees Bare = []
trees (Grown t f) = t ∷ trees f

-- the child at this place, counted from 1, is a node with this rule
pub record IsChild (place rule : ℕ) (children : Forest) : Type 0 where
  pub grandchildren : Forest
  pub above_zero : 0 < place
  pub at : slice_get (trees children) (place - 1) ≡ Some (Node rule grandchildren)

-- some node with rule p has a node with rule q as its child at place i
abbrev mutual
  pub UsesRuleIn : ℕ → ℕ → ℕ → Tree → Type 0
  UsesRuleIn p i q (Leaf t) = ⊥
  UsesRuleIn p i q (Node r children) = ((r ≡ p) × IsChild i q children) ⊎ SomeUsesRuleIn p i q children

  pub SomeUsesRuleIn : ℕ → ℕ → ℕ → Forest → Type 0
  SomeUsesRuleIn p i q Bare = ⊥
  SomeUsesRuleIn p i q (Grown t f) = UsesRuleIn p i q t ⊎ SomeUsesRuleIn p i q f

-- the tree meets the goal
abbrev pub Meets : Goal → Tree → Type 0
Meets (Rule r) t = UsesRule r t
Meets (Context p i q) t = UsesRuleIn p i q t
Meets (Pair a b) t = IsFollowed a b (framed (yield t))

-- the rule numbers are the code of a tree of the start symbol that meets the goal
pub record IsMeeting (g : PlainGrammar) (goal : Goal) (rules : List ℕ) : Type 0 where
  pub tree : Tree
  pub is_tree : IsTree g (Nonterminal g.start) tree
  pub code : rules ≡ code tree
  pub meets : Meets goal tree
