-- One rule more stands last in the list of its left side.
use Rattle.std.proofs.Common.{◌≡◌, ◌-◌, List, Some, length, refl, ap, ◌∙◌, subst, arith}
use Rattle.std.specs.Prelude.{slice_get}
use Rattle.std.proofs.lemmas.Option.{slice_get_read}
use Rattle.cs_grammar.specs.Grammar.{Production, IsNumberOf}
use Rattle.cs_least.proofs.OnCost.Rules.{rule_at, well_formed_at}
use Rattle.cs_pairs.proofs.OnKinds.LeftLists.{lefts_none, lefts_more, lefts_all}
use Rattle.cs_pairs.proofs.kinds.lefts.lefts_of.Goals as goal

pub loop-place-init : goal.loop-place-init
loop-place-init c = lefts_none c.args.grammar.now _ _ c.nonterminals.ensures c.in_ok-lefts.ensures

pub loop-place-preserved : goal.loop-place-preserved
loop-place-preserved c =
    let g = c.args.grammar.now in
    let i = c.loop-place.place in
    let q = c.rule-item.result in
    let here = slice_get_read _ _ i q refl c.loop-place-test.true c.rule-item.is in
    let at = subst (λ (rules : List Production). slice_get rules i ≡ Some q) c.rules-rule-items.ensures.rules here in
    let rule = rule_at g i q at in
    let left : IsNumberOf g.nonterminals q.left = (well_formed_at g i q c.rules-rule-items.ensures.well_formed at).left in
    let place : c.place_of.result ≡ q.left - 1 = c.place_of.ensures ∙ ap (λ n. n - 1) c.left.ensures in
    let row = slice_get_read c.loop-place.lefts.items _ (q.left - 1) c.index_mut.result.now refl (omega (arith, left, c.loop-place.invariant.many)) (rw place at c.index_mut.ensures.value) in
    rw place (lefts_more g i q c.loop-place.lefts.items c.index_mut.result.now c.push.new.self rule left row (rw c.number_of.ensures at c.in_ok-push.ensures.items) c.loop-place.invariant)

pub returns : goal.returns
returns c =
    let same = ap (λ (l : List Production). length l) c.rules-rule-items.ensures.rules in
    lefts_all c.args.grammar.now c.loop-place.place _ (omega (arith, same, c.loop-place-test.false, c.loop-place.auto.place-end)) c.loop-place.invariant
