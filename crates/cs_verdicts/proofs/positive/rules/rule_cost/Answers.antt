-- A least tree of the goal is a least node of the rule in a least context.
use Rattle.std.proofs.Common.{List, sym, ap, ◌∙◌, subst}
use Rattle.cs_grammar.specs.declared.symbol.Symbol.{Symbol}
use Rattle.cs_grammar.specs.Grammar.{PlainGrammar, IsRule}
use Rattle.cs_grammar.specs.Weights.{Weighed}
use Rattle.cs_grammar.specs.Tree.{AreTrees, size, sizes}
use Rattle.cs_grammar.specs.Context.{context_size}
use Rattle.cs_least.specs.declared.cost.cost.Cost.{Cost}
use Rattle.cs_least.specs.Cost.Least.{IsCost}
use Rattle.cs_least.specs.Cost.Rank.{plus}
use Rattle.cs_least.specs.Embed.Around.{IsContextOf}
use Rattle.cs_goals.specs.declared.goal.Goal.TheVariants.{Rule}
use Rattle.cs_verdicts.specs.Positive.Verdict.{IsMet}
use Rattle.cs_verdicts.proofs.OnPositive.RuleGoals.{rule_cost}
use Rattle.cs_verdicts.proofs.positive.rules.rule_cost.Goals as goal

pub returns : goal.returns
returns c =
    let w = c.costs-costs.result.now.weights in
    let g = c.costs-costs.result.now.grammar in
    let p = c.rule-rule.result.now in
    let grammar = c.grammar.ensures ∙ ap (λ (v : Weighed). v.grammar) (sym c.costs-costs.ensures) in
    let rule = subst (λ (s : PlainGrammar). IsRule s c.args.number p) grammar c.rule-rule.ensures.rule in
    let around = subst (λ (v : Weighed). IsCost v.weights.limit (IsContextOf v.grammar p.left) (context_size v.weights) c.embed-around.result) (sym c.costs-costs.ensures)
    (subst (λ n. IsCost c.args.embeds.now.weights.limit (IsContextOf c.args.embeds.now.grammar n) (context_size c.args.embeds.now.weights) c.embed-around.result) c.left.ensures c.embed-around.ensures) in
    let children = subst (λ (l : List Symbol). IsCost w.limit (AreTrees g l) (sizes w) c.sum.result) c.right.ensures c.sum.ensures in
    let sum = c.plus.ensures.cost ∙ ap (λ (k : Cost). plus w.limit c.embed-around.result k) c.node_cost-node.ensures.cost in
    subst (λ (v : Weighed). IsCost v.weights.limit (IsMet v.grammar (Rule c.args.number)) (size v.weights) c.plus.result) c.costs-costs.ensures
    (subst (IsCost w.limit (IsMet g (Rule c.args.number)) (size w)) (sym sum)
    (rule_cost w g c.args.number p rule c.embed-around.result c.sum.result around children))
