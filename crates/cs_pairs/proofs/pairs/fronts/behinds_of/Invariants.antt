use Rattle.std.proofs.Common.{drop}
use Rattle.cs_grammar.specs.Tree.{sizes}
use Rattle.cs_pairs.specs.declared.kinds.kind.TreeKind.TheVariants.{Any}
use Rattle.cs_pairs.specs.Kinds.Kinds.{AreTreesOfKind}
use Rattle.cs_pairs.specs.Kinds.Filled.{IsFilled}
use Rattle.cs_pairs.proofs.pairs.fronts.behinds_of.Given as goal

abbrev pub invariant-loop-place : goal.invariant-loop-place
invariant-loop-place l = IsFilled l.costs.weights.limit (λ n. AreTreesOfKind l.costs.grammar Any (drop n l.rule.right)) (sizes l.costs.weights) l.place l.behinds.items
