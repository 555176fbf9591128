-- The node costs one, and to it come the trees before the child and those behind it.
use Rattle.std.proofs.Common.{◌≡◌, sym, ap, ◌∙◌, subst}
use Rattle.cs_grammar.specs.Weights.{Weighed}
use Rattle.cs_least.specs.declared.cost.cost.Cost.{Cost}
use Rattle.cs_least.specs.Cost.Rank.{cost_of, plus}
use Rattle.cs_pairs.specs.Kinds.RimsOf.{IsBesideCostOf}
use Rattle.cs_pairs.proofs.OnKinds.RimLists.{beside_cost}
use Rattle.cs_pairs.proofs.kinds.rims.beside_cost.Goals as goal

pub returns-clause-cost : goal.returns-clause-cost
returns-clause-cost c =
    let v = c.args.bases.now in
    let w = v.weights in
    let l = c.bases.inside.costs.now.weights.limit in
    let a = c.before_cost-first.result in
    let b = c.behind_cost-last.result in
    let both : c.plus-2.result ≡ plus w.limit (cost_of w.limit 1) (plus w.limit a b) =
    c.plus-2.ensures.cost ∙ ap (λ (x : Cost). plus l x c.plus.result) c.node.ensures.cost ∙ ap (λ (x : Cost). plus l (cost_of l 1) x) c.plus.ensures.cost
    ∙ ap (λ (u : Weighed). plus u.weights.limit (cost_of u.weights.limit 1) (plus u.weights.limit a b)) c.bases.view_is in
    subst (IsBesideCostOf v c.args.side c.args.before.now c.args.behind.now) (sym both)
    (beside_cost w v.grammar c.args.side c.args.before.now c.args.behind.now a b c.before_cost-first.ensures.cost c.behind_cost-last.ensures.cost)
