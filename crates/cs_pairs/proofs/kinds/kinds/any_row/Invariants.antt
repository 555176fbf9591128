use Rattle.cs_grammar.specs.declared.symbol.Symbol.TheVariants.{Nonterminal}
use Rattle.cs_grammar.specs.Tree.{size}
use Rattle.cs_pairs.specs.declared.kinds.kind.TreeKind.TheVariants.{Any}
use Rattle.cs_pairs.specs.Kinds.Kinds.{IsTreeOfKind}
use Rattle.cs_pairs.specs.Kinds.Filled.{IsFilled}
use Rattle.cs_pairs.proofs.kinds.kinds.any_row.Given as goal

abbrev pub invariant-loop-place : goal.invariant-loop-place
invariant-loop-place l = IsFilled l.costs.weights.limit (λ n. IsTreeOfKind l.costs.grammar Any (Nonterminal n)) (size l.costs.weights) l.place l.row.items
