-- A rule begins as many chains as its nonterminals have context goals, and rule by rule these add up to all.
use Rattle.std.proofs.Common.{◌≡◌, ◌+◌, ◌*◌, ◌^◌, ◌<◌, ◌≤◌, List, length, take, get_or, sym, ap, ◌∙◌, subst, arith}
use Rattle.std.specs.List.{sum_by}
use Rattle.std.proofs.lemmas.List.{take_all}
use Rattle.std.proofs.lemmas.List.Sums.{sum_by_more}
use Rattle.cs_grammar.specs.declared.symbol.Symbol.{Symbol}
use Rattle.cs_grammar.specs.Grammar.{Production, IsRuleOf}
use Rattle.cs_chain.specs.Chains.Counts.{weight, in_table, links_with, chains_with}
use Rattle.cs_chain.proofs.OnChains.Counted.{count_chains}
use Rattle.cs_chain.proofs.OnChains.Sums.{weight-le, weight-same}
use Rattle.cs_chain.proofs.chains.counting.add_up.Goals as goal
use Rattle.cs_chain.proofs.chains.counting.add_up.Goals.{After-weigh-sum}

here : (c : After-weigh-sum) → c.loop-rule.rule-index < length c.args.grammar.now.rules
here c = subst (λ (l : List Production). c.loop-rule.rule-index < length l) c.rules-rule-items.ensures.rules c.loop-rule-test.true

is_rule : (c : After-weigh-sum) → c.rule-item.result ≡ get_or c.args.grammar.now.rules c.loop-rule.rule-index c.rule-item.result
is_rule c = subst (λ (l : List Production). c.rule-item.result ≡ get_or l c.loop-rule.rule-index c.rule-item.result) c.rules-rule-items.ensures.rules c.rule-item.is

well_formed : (c : After-weigh-sum) → IsRuleOf c.args.grammar.now.tokens c.args.grammar.now.nonterminals c.rule-item.result
well_formed c =
    let g = c.args.grammar.now in
    subst (IsRuleOf g.tokens g.nonterminals) (sym (is_rule c)) (c.rules-rule-items.ensures.well_formed.rules c.loop-rule.rule-index c.rule-item.result (here c))

weighed : (c : After-weigh-sum) → c.weigh-sum.result ≡ weight (in_table c.args.links.now) c.rule-item.result.right
weighed c = c.weigh-sum.ensures ∙ ap (λ (l : List Symbol). weight (in_table c.args.links.now) l) c.right.ensures

small : (c : After-weigh-sum) → c.weigh-sum.result ≤ 128 * 2 ^ 33
small c = omega (arith, weighed c, weight-le (in_table c.args.links.now) (2 ^ 33) c.requires.most c.rule-item.result.right, (well_formed c).short)

pub overflow_add-sum : goal.overflow_add-sum
overflow_add-sum c =
    let at = (goal.at.overflow_add-sum c).After-weigh-sum in
    omega (arith, small at, c.loop-rule.invariant.1, here at, c.rules-rule-items.ensures.well_formed.few)

pub loop-rule-preserved : goal.loop-rule-preserved
loop-rule-preserved c =
    let at = (goal.at.loop-rule-preserved c).After-weigh-sum in
    let g = c.args.grammar.now in
    let p = c.rule-item.result in
    let i = c.loop-rule.rule-index in
    let exact = weight-same (in_table c.args.links.now) (links_with g) g.tokens g.nonterminals c.requires.table.each p.right (well_formed at).right in
    let more = sum_by_more (chains_with g) g.rules i p (here at) ∙ ap (λ (r : Production). sum_by (chains_with g) (take i g.rules) + chains_with g r) (sym (is_rule at)) in
    (omega (arith, c.loop-rule.invariant.0, weighed at, exact, more), omega (arith, small at, c.loop-rule.invariant.1))

pub returns : goal.returns
returns c =
    let g = c.args.grammar.now in
    let past = subst (λ (l : List Production). length l ≤ c.loop-rule.rule-index) c.rules-rule-items.ensures.rules c.loop-rule-test.false in
    c.loop-rule.invariant.0 ∙ ap (λ (l : List Production). sum_by (chains_with g) l) (take_all c.loop-rule.rule-index g.rules past) ∙ sym (count_chains g)
