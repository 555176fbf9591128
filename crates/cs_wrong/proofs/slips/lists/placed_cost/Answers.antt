-- What a context and trees cost is put together as they are.
use Rattle.std.proofs.Common.{ap, sym, ◌∙◌, subst}
use Rattle.cs_grammar.specs.Weights.{Weighed}
use Rattle.cs_least.specs.Cost.Rank.{cost_of, plus}
use Rattle.cs_least.specs.Cost.Trees.{AreTreesCost}
use Rattle.cs_least.specs.declared.cost.cost.Cost.{Cost}
use Rattle.cs_wrong.proofs.OnSlips.Placing.{placed_cost}
use Rattle.cs_wrong.specs.Slips.Lists.{IsPlacedCost}
use Rattle.cs_wrong.proofs.slips.lists.placed_cost.Goals as goal

pub returns : goal.returns
returns c =
    let limit = c.costs-costs.result.now.weights.limit in
    let trees = subst (λ (v : Weighed). AreTreesCost v c.args.symbols.now c.sum.result) c.costs-costs.ensures c.sum.ensures in
    let node = c.plus-node.ensures.cost ∙ ap (λ (k : Cost). plus limit k c.sum.result) c.node.ensures.cost in
    let whole = c.plus.ensures.cost ∙ ap (λ (k : Cost). plus limit c.embed.result k) node in
    let own = whole ∙ ap (λ (v : Weighed). plus v.weights.limit c.embed.result (plus v.weights.limit (cost_of v.weights.limit 1) c.sum.result)) c.costs-costs.ensures in
    subst (λ (k : Cost). IsPlacedCost c.args.embeds.now c.args.left c.args.symbols.now k) (sym own)
    (placed_cost c.args.embeds.now c.args.left c.args.symbols.now c.embed.result c.sum.result c.embed.ensures trees)
