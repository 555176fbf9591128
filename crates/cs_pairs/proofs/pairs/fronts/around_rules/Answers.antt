-- One rule more has its row of fronts and its row of what stands behind.
use Rattle.std.proofs.Common.{◌≡◌, ◌+◌, List, Some, refl, ap, subst, ◌∙◌}
use Rattle.std.specs.Prelude.{slice_get}
use Rattle.std.proofs.lemmas.Option.{slice_get_read}
use Rattle.cs_grammar.specs.Grammar.{Production, PlainGrammar}
use Rattle.cs_grammar.specs.Weights.{Weighed}
use Rattle.cs_least.proofs.OnCost.Rules.{rule_at}
use Rattle.cs_pairs.proofs.OnKinds.RowLists.{rows_more, length_more}
use Rattle.cs_pairs.proofs.OnPairs.Fronting.{row_at, rows_all}
use Rattle.cs_pairs.specs.Pairs.Fronts.{AreFronts, AreBehinds, AreFrontsOf, AreBehindsOf, AreBehindsIn}
use Rattle.cs_pairs.proofs.pairs.fronts.around_rules.Goals as goal

pub fronts_of-requires : goal.fronts_of-requires
fronts_of-requires c =
    let g = c.args.embeds.now.grammar in
    let i = c.loop-rule.rule-index in
    let here = slice_get_read _ _ i c.rule-item.result refl c.loop-rule-test.true c.rule-item.is in
    let same = c.rules-rule-items.ensures.rules ∙ ap (λ (s : PlainGrammar). s.rules) c.grammar.ensures in
    (i + 1, rule_at g i c.rule-item.result (subst (λ (rules : List Production). slice_get rules i ≡ Some c.rule-item.result) same here))

pub loop-rule-preserved : goal.loop-rule-preserved
loop-rule-preserved c =
    let g = c.args.embeds.now.grammar in
    let i = c.loop-rule.rule-index in
    let here = slice_get_read _ _ i c.rule-item.result refl c.loop-rule-test.true c.rule-item.is in
    let same = c.rules-rule-items.ensures.rules ∙ ap (λ (s : PlainGrammar). s.rules) c.grammar.ensures in
    let at = subst (λ (rules : List Production). slice_get rules i ≡ Some c.rule-item.result) same here in
    let w = c.args.embeds.now.weights in
    let front = row_at (AreFronts w g) g i c.rule-item.result _ at c.in_ok-fronts_of.ensures in
    let behinds = subst (λ (v : Weighed). AreBehindsIn v c.rule-item.result c.in_ok-behinds_of.field-0) c.costs.ensures c.in_ok-behinds_of.ensures in
    let behind = row_at (AreBehinds w g) g i c.rule-item.result _ at behinds in
    rw (c.in_ok-push.ensures.items, c.in_ok-push-2.ensures.items) (record {
      many = length_more (AreFrontsOf w g) i _ _ c.loop-rule.invariant.many;
      fronts = rows_more (AreFrontsOf w g) i _ _ c.loop-rule.invariant.many c.loop-rule.invariant.fronts front;
      many_behind = length_more (AreBehindsOf w g) i _ _ c.loop-rule.invariant.many_behind;
      behinds = rows_more (AreBehindsOf w g) i _ _ c.loop-rule.invariant.many_behind c.loop-rule.invariant.behinds behind;
    })

pub returns : goal.returns
returns c =
    let same = c.rules-rule-items.ensures.rules ∙ ap (λ (s : PlainGrammar). s.rules) c.grammar.ensures in
    let w = c.args.embeds.now.weights in
    let g = c.args.embeds.now.grammar in
    let before = c.loop-rule.invariant in
    let end = c.loop-rule.auto.rule-index-end in
    record {
      fronts = rows_all (AreFronts w g) g _ _ _ same c.loop-rule-test.false end before.many before.fronts;
      behinds = rows_all (AreBehinds w g) g _ _ _ same c.loop-rule-test.false end before.many_behind before.behinds;
    }
