-- A rule without nonterminals joins the candidates, and any other is passed, as it has open ones.
use Rattle.std.proofs.Common.{◌≡◌, ◌∷◌, List, refl, sym, ap, ◌∙◌, subst}
use Rattle.std.specs.Prelude.{slice_get}
use Rattle.std.specs.BinaryHeap.{heap_items}
use Rattle.std.specs.List.Sorted.{IsPermutation}
use Rattle.std.proofs.lemmas.Option.{slice_get_read}
use Rattle.cs_grammar.specs.Grammar.{Production}
use Rattle.cs_least.specs.declared.cost.cost.Cost.{Cost}
use Rattle.cs_least.specs.Cost.Worklist.{offered}
use Rattle.cs_least.proofs.OnCost.Settling.{first_passed, first_offered}
use Rattle.cs_least.proofs.cost.worklist.offer_first.Goals as goal
use Rattle.cs_least.proofs.cost.worklist.offer_first.Goals.{then-index-eq0+in_ok-offer, else-index-eq0}

pub loop-place-preserved : goal.loop-place-preserved
loop-place-preserved c =
    let w = c.args.rules.now.weights.now in
    let work = c.loop-place.work in
    let heap = heap_items work.heap in
    let i = c.loop-place.place in
    let p = c.rule-item.result in
    let there = slice_get_read _ _ i p refl c.loop-place-test.true c.rule-item.is in
    let at = ap (λ (rules : List Production). slice_get rules i) (sym c.rules-rule-items.ensures.rules) ∙ there in
    elim c.if-index-eq0.branch [
      | then-index-eq0+in_ok-offer v ↦
          let after = heap_items v.offer.new.heap in
          let joins = subst (λ (t : List Cost). IsPermutation (offered w t p ∷ heap) after) v.deref.ensures.value v.in_ok-offer.ensures.joins in
          let is : c.if-index-eq0.work ≡ record { table = work.table; unsettled = work.unsettled; heap = v.offer.new.heap } = v.work-is in
          rw is
          (first_offered _ _ _ _ _ _ c.loop-place.invariant p at _ c.index.ensures after c.requires.rules.weighs.grammar v.if-index-eq0.true joins v.in_ok-offer.ensures.ordered)
      | else-index-eq0 v ↦
          rw v.work-is (first_passed _ _ _ _ _ _ c.loop-place.invariant p at _ c.index.ensures v.if-index-eq0.false)
    ]
