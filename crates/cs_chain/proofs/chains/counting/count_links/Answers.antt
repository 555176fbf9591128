-- One rule's context goals are added to those of its left side, and there are few enough for the sum to fit.
use Rattle.std.proofs.Common.{◌≡◌, ◌+◌, ◌-◌, ◌*◌, ◌^◌, ◌<◌, ◌≤◌, ℕ, List, length, get_or, set, sym, ap, ◌∙◌, subst, arith}
use Rattle.std.proofs.lemmas.List.{get_or_default, length-set}
use Rattle.cs_grammar.specs.declared.symbol.Symbol.{Symbol}
use Rattle.cs_grammar.specs.Grammar.{Production, IsRuleOf}
use Rattle.cs_chain.specs.Chains.Counts.{weight, in_table, rules_with, links_of, AreAtMost, IsCounted}
use Rattle.cs_chain.proofs.OnChains.Sums.{weight-le, weight-same, grown, grown-most}
use Rattle.cs_chain.proofs.chains.counting.count_links.Goals as goal
use Rattle.cs_chain.proofs.chains.counting.count_links.Goals.{After-index_mut}

here : (c : After-index_mut) → c.loop-rule.rule-index < length c.args.grammar.now.rules
here c = subst (λ (l : List Production). c.loop-rule.rule-index < length l) c.rules-rule-items.ensures.rules c.loop-rule-test.true

is_rule : (c : After-index_mut) → c.rule-item.result ≡ get_or c.args.grammar.now.rules c.loop-rule.rule-index c.rule-item.result
is_rule c = subst (λ (l : List Production). c.rule-item.result ≡ get_or l c.loop-rule.rule-index c.rule-item.result) c.rules-rule-items.ensures.rules c.rule-item.is

well_formed : (c : After-index_mut) → IsRuleOf c.args.grammar.now.tokens c.args.grammar.now.nonterminals c.rule-item.result
well_formed c =
    let g = c.args.grammar.now in
    subst (IsRuleOf g.tokens g.nonterminals) (sym (is_rule c)) (c.rules-rule-items.ensures.well_formed.rules c.loop-rule.rule-index c.rule-item.result (here c))

weighed : (c : After-index_mut) → c.weigh.result ≡ weight (in_table c.args.rules.now) c.rule-item.result.right
weighed c = c.weigh.ensures ∙ ap (λ (l : List Symbol). weight (in_table c.args.rules.now) l) c.right.ensures

small : (c : After-index_mut) → c.weigh.result ≤ 1048576
small c = omega (arith, weighed c, weight-le (in_table c.args.rules.now) (2 ^ 13) c.requires.most c.rule-item.result.right, (well_formed c).short)

-- the number of the rule's left side, where it stands in the table
place : (c : After-index_mut) → c.place_of.result ≡ c.rule-item.result.left - 1
place c = c.place_of.ensures ∙ ap (λ n. n - 1) c.left.ensures

inside : (c : After-index_mut) → c.place_of.result < length c.loop-rule.table.items
inside c = let left = (well_formed c).left in omega (arith, place c, left.0, left.1, c.loop-rule.invariant.0.long)

old : (c : After-index_mut) → c.index_mut.result.now ≡ get_or c.loop-rule.table.items c.place_of.result 0
old c = c.index_mut.ensures.value ∙ get_or_default c.loop-rule.table.items c.place_of.result c.index_mut.result.now 0 (inside c)

pub overflow_add-index_mut : goal.overflow_add-index_mut
overflow_add-index_mut c =
    let at = (goal.at.overflow_add-index_mut c).After-index_mut in
    let few = c.rules-rule-items.ensures.well_formed.few in
    let kept : get_or c.loop-rule.table.items c.place_of.result 0 ≤ c.loop-rule.rule-index * 1048576 =
    subst (λ k. get_or c.loop-rule.table.items k 0 ≤ c.loop-rule.rule-index * 1048576) (sym (place at)) (c.loop-rule.invariant.1 c.rule-item.result.left) in
    omega (arith, small at, old at, kept, here at, few)

pub loop-rule-preserved : goal.loop-rule-preserved
loop-rule-preserved c =
    let at = (goal.at.loop-rule-preserved c).After-index_mut in
    let g = c.args.grammar.now in
    let p = c.rule-item.result in
    let i = c.loop-rule.rule-index in
    let table = c.loop-rule.table.items in
    let number : c.weigh.result ≡ links_of g p =
    weighed at ∙ weight-same (in_table c.args.rules.now) (rules_with g) g.tokens g.nonterminals c.requires.table.each p.right (well_formed at).right in
    let same : set table (p.left - 1) (get_or table (p.left - 1) 0 + links_of g p) ≡ set table c.place_of.result (c.index_mut.result.now + c.weigh.result) =
    ap (λ k. set table k (get_or table k 0 + links_of g p)) (sym (place at))
    ∙ ap (λ n. set table c.place_of.result (n + links_of g p)) (sym (old at))
    ∙ ap (λ n. set table c.place_of.result (c.index_mut.result.now + n)) (sym number) in
    let most = grown-most table c.place_of.result c.weigh.result (i * 1048576) 1048576 (inside at) c.loop-rule.invariant.1 (small at) in
    let next : i * 1048576 + 1048576 ≡ (i + 1) * 1048576 = omega arith in (
      subst (λ (l : List ℕ). IsCounted g (links_of g) (i + 1) l) same (record {
        long = length-set table (p.left - 1) (get_or table (p.left - 1) 0 + links_of g p) ∙ c.loop-rule.invariant.0.long;
        each = grown (links_of g) g.rules i p table g.nonterminals (here at) (is_rule at) c.loop-rule.invariant.0.long (well_formed at).left c.loop-rule.invariant.0.each;
      }),
      subst (λ k. AreAtMost k (set table c.place_of.result (c.index_mut.result.now + c.weigh.result))) next
          (subst (λ n. AreAtMost (i * 1048576 + 1048576) (set table c.place_of.result (n + c.weigh.result))) (sym (old at)) most),
    )
