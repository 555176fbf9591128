-- What the least trees of a kind cost.
use Rattle.std.specs.Prelude.{List}
use Rattle.cs_grammar.specs.declared.symbol.Symbol.{Symbol}
use Rattle.cs_grammar.specs.Weights.{Weighed}
use Rattle.cs_grammar.specs.Tree.{size, sizes}
use Rattle.cs_least.specs.declared.cost.cost.Cost.{Cost}
use Rattle.cs_least.specs.Cost.Least.{IsCost}
use Rattle.cs_pairs.specs.declared.kinds.kind.TreeKind.{TreeKind}
use Rattle.cs_pairs.specs.Kinds.Kinds.{IsTreeOfKind, AreTreesOfKind}

-- a tree of x that is of the kind
abbrev pub IsKindCost : Weighed → TreeKind → Symbol → Cost → Type 0
IsKindCost v k x cost = IsCost v.weights.limit (IsTreeOfKind v.grammar k x) (size v.weights) cost

-- trees of these symbols that are of the kind together
abbrev pub AreKindCost : Weighed → TreeKind → List Symbol → Cost → Type 0
AreKindCost v k xs cost = IsCost v.weights.limit (AreTreesOfKind v.grammar k xs) (sizes v.weights) cost
