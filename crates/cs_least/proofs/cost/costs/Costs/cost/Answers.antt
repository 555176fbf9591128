-- The table says what the least tree of each nonterminal costs, and the cost of a symbol is read from it.
use Rattle.std.proofs.Common.{List, sym, ap, ◌∙◌, subst}
use Rattle.cs_grammar.specs.Tree.{IsTree, size}
use Rattle.cs_grammar.specs.Weights.{Weighed, weighed}
use Rattle.cs_least.specs.declared.cost.cost.Cost.{Cost}
use Rattle.cs_least.specs.Cost.Least.{IsCost}
use Rattle.cs_least.specs.Cost.Tables.{Kept}
use Rattle.cs_least.specs.Cost.Trees.{cost_in}
use Rattle.cs_least.proofs.OnCost.FirstRules.{symbol_cost}
use Rattle.cs_least.proofs.cost.costs.Costs.cost.Goals as goal

pub returns : goal.returns
returns c =
    let x = c.args.symbol in
    let trees = c.trees.inside in
    let w = trees.weights.now in
    let g = trees.grammar.now in
    let is = c.cost_in.ensures ∙ ap (λ (t : List Cost). cost_in w t x) c.deref.ensures.value in
    subst (λ (v : Weighed). IsCost v.weights.limit (IsTree v.grammar x) (size v.weights) c.cost_in.result) (ap (λ (k : Kept). weighed k.grammar k.weights) c.trees.view_is ∙ c.self.view_is)
    (subst (IsCost w.limit (IsTree g x) (size w)) (sym is) (symbol_cost w g trees.table.items c.trees.invariant.costs x))
