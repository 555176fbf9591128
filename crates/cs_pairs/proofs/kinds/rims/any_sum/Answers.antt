-- Trees of any kind are all trees, so they cost what the sum of the costs says, which is capped.
use Rattle.std.proofs.Common.{subst}
use Rattle.cs_grammar.specs.Weights.{Weighed}
use Rattle.cs_grammar.specs.Tree.{AreTrees, sizes}
use Rattle.cs_least.specs.Cost.Rank.{IsCapped}
use Rattle.cs_least.proofs.OnCost.Ranks.{cost_capped}
use Rattle.cs_pairs.specs.declared.kinds.kind.TreeKind.TheVariants.{Any}
use Rattle.cs_pairs.specs.Kinds.KindCost.{AreKindCost}
use Rattle.cs_pairs.proofs.OnKinds.KindCosts.{all_of_any}
use Rattle.cs_pairs.proofs.kinds.rims.any_sum.Goals as goal

pub returns-clause-cost : goal.returns-clause-cost
returns-clause-cost c =
    let v = c.bases.inside.costs.now in
    subst (λ (u : Weighed). AreKindCost u Any c.args.symbols.now c.sum.result) c.bases.view_is (all_of_any v.weights v.grammar c.args.symbols.now c.sum.result c.sum.ensures)

pub returns-clause-capped : goal.returns-clause-capped
returns-clause-capped c =
    let v = c.bases.inside.costs.now in
    subst (λ (u : Weighed). IsCapped u.weights.limit c.sum.result) c.bases.view_is (cost_capped v.weights.limit (AreTrees v.grammar c.args.symbols.now) (sizes v.weights) c.sum.result c.sum.ensures)
