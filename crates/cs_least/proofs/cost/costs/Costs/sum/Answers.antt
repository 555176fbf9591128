-- What the table says of each symbol adds up to what the least trees of all of them cost together.
use Rattle.std.proofs.Common.{List, sym, ap, ◌∙◌, subst}
use Rattle.cs_grammar.specs.Tree.{AreTrees, sizes}
use Rattle.cs_grammar.specs.Weights.{Weighed, weighed}
use Rattle.cs_least.specs.declared.cost.cost.Cost.{Cost}
use Rattle.cs_least.specs.declared.cost.cost.Cost.TheVariants.{Least}
use Rattle.cs_least.specs.Cost.Least.{IsCost}
use Rattle.cs_least.specs.Cost.Rank.{sum_from}
use Rattle.cs_least.specs.Cost.Tables.{Kept}
use Rattle.cs_least.specs.Cost.Trees.{cost_in}
use Rattle.cs_least.proofs.OnCost.FirstRules.{symbols_cost}
use Rattle.cs_least.proofs.cost.costs.Costs.sum.Goals as goal

pub returns : goal.returns
returns c =
    let xs = c.args.symbols.now in
    let trees = c.trees.inside in
    let w = trees.weights.now in
    let g = trees.grammar.now in
    let is = c.sum_from.ensures.cost ∙ ap (λ (t : List Cost). sum_from w.limit (cost_in w t) (Least 0) xs) c.deref.ensures.value in
    subst (λ (v : Weighed). IsCost v.weights.limit (AreTrees v.grammar xs) (sizes v.weights) c.sum_from.result) (ap (λ (k : Kept). weighed k.grammar k.weights) c.trees.view_is ∙ c.self.view_is)
    (subst (IsCost w.limit (AreTrees g xs) (sizes w)) (sym is) (symbols_cost w g trees.table.items c.trees.invariant.costs xs))
