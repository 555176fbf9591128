-- The facts that the laws state, of a grammar and its weights.
use Rattle.std.specs.Prelude.{◌≤◌}
use Rattle.cs_grammar.specs.declared.symbol.Mark.{Mark}
use Rattle.cs_grammar.specs.Laws.{AtLeastOne}
use Rattle.cs_grammar.specs.Weights.{Weighed}
use Rattle.cs_grammar.specs.Tree.{Tree, size}
use Rattle.cs_goals.specs.Goal.{IsLeft, IsRight}
use Rattle.cs_pairs.specs.Pairs.Pairs.{HasPair}
use Rattle.cs_pairs.specs.Pairs.ChosenPair.{IsChosenPair}

-- the chosen tree of a pair
abbrev pub IsChosenPairIn : Weighed → Mark → Mark → Tree → Type 0
IsChosenPairIn v a b t = IsChosenPair v.weights v.grammar a b t

-- marks that may stand left and right in a pair
abbrev pub AreMarks : Weighed → Mark → Mark → Type 0
AreMarks v a b = IsLeft v.grammar.tokens a × IsRight v.grammar.tokens b

-- some tree has the pair, and some is chosen
abbrev pub HasPairTree : Weighed → Mark → Mark → Type 0
HasPairTree v a b = AreMarks v a b × AtLeastOne (HasPair v.grammar a b)

abbrev pub HasChosenPair : Weighed → Mark → Mark → Type 0
HasChosenPair v a b = AtLeastOne (IsChosenPairIn v a b)

-- a tree with the pair, and none is smaller
pub record IsLeastPair (v : Weighed) (a b : Mark) (u : Tree) : Type 0 where
  pub has_pair : HasPair v.grammar a b u
  pub least : (t : Tree) → HasPair v.grammar a b t → size v.weights u ≤ size v.weights t

abbrev pub ChosenPairIsLeast : Weighed → Mark → Mark → Type 0
ChosenPairIsLeast v a b = (u : Tree) → IsChosenPairIn v a b u → IsLeastPair v a b u
