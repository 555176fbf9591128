-- A least tree of the goal is two nodes with least siblings and children in a least context.
use Rattle.std.proofs.Common.{List, sym, ap, ◌∙◌, subst}
use Rattle.cs_grammar.specs.declared.symbol.Symbol.{Symbol}
use Rattle.cs_grammar.specs.Grammar.{PlainGrammar}
use Rattle.cs_grammar.specs.Weights.{Weighed}
use Rattle.cs_grammar.specs.Tree.{AreTrees, size, sizes}
use Rattle.cs_grammar.specs.Context.{context_size}
use Rattle.cs_least.specs.declared.cost.cost.Cost.{Cost}
use Rattle.cs_least.specs.Cost.Least.{IsCost}
use Rattle.cs_least.specs.Cost.Rank.{plus, cost_of}
use Rattle.cs_least.specs.Embed.Around.{IsContextOf}
use Rattle.cs_goals.specs.declared.goal.Goal.TheVariants.{Context}
use Rattle.cs_verdicts.specs.Positive.Occurrences.{IsCutAt}
use Rattle.cs_verdicts.specs.Positive.Verdict.{IsMet}
use Rattle.cs_verdicts.proofs.OnPositive.ContextGoals.{context_cost}
use Rattle.cs_verdicts.proofs.positive.contexts.context_cost.Goals as goal

pub returns : goal.returns
returns c =
    let w = c.costs-costs.result.now.weights in
    let g = c.costs-costs.result.now.grammar in
    let o = c.cut_at-parts.result in
    let p = o.outer.now in
    let grammar = c.grammar.ensures ∙ ap (λ (v : Weighed). v.grammar) (sym c.costs-costs.ensures) in
    let cut = subst (λ (s : PlainGrammar). IsCutAt s c.args.occurrence o) grammar c.cut_at-parts.ensures.cut in
    let around = subst (λ (v : Weighed). IsCost v.weights.limit (IsContextOf v.grammar p.left) (context_size v.weights) c.embed-context.result) (sym c.costs-costs.ensures)
    (subst (λ n. IsCost c.args.embeds.now.weights.limit (IsContextOf c.args.embeds.now.grammar n) (context_size c.args.embeds.now.weights) c.embed-context.result) c.left.ensures c.embed-context.ensures) in
    let children = subst (λ (l : List Symbol). IsCost w.limit (AreTrees g l) (sizes w) c.sum-3.result) c.right.ensures c.sum-3.ensures in
    let one = cost_of w.limit 1 in
    let around_is = c.plus-around.ensures.cost ∙ ap (λ (k : Cost). plus w.limit c.embed-context.result k) (c.node_cost.ensures.cost ∙ ap (λ (k : Cost). plus w.limit one k) c.plus-siblings.ensures.cost) in
    let sum = c.plus.ensures.cost ∙ ap (λ (k : Cost). plus w.limit k c.node_cost-node.result) around_is
    ∙ ap (λ (k : Cost). plus w.limit (plus w.limit c.embed-context.result (plus w.limit one (plus w.limit c.sum.result c.sum-2.result))) k) c.node_cost-node.ensures.cost in
    subst (λ (v : Weighed). IsCost v.weights.limit (IsMet v.grammar (Context c.args.occurrence.outer c.args.occurrence.place c.args.occurrence.inner)) (size v.weights) c.plus.result) c.costs-costs.ensures
    (subst (IsCost w.limit (IsMet g (Context c.args.occurrence.outer c.args.occurrence.place c.args.occurrence.inner)) (size w)) (sym sum)
    (context_cost w g c.args.occurrence.outer c.args.occurrence.place c.args.occurrence.inner p o.inner.now cut.is_outer cut.is_inner o.before.now o.behind.now cut.right_side cut.place c.embed-context.result c.sum.result c.sum-2.result c.sum-3.result around c.sum.ensures c.sum-2.ensures children))
