-- Each time a rule is told it has one open nonterminal fewer; with none left its node joins the candidates.
use Rattle.std.proofs.Common.{◌≡◌, ◌∷◌, ℕ, ◌+◌, ◌-◌, ◌<◌, List, length, get_or, sym, ap, ◌∙◌, subst, arith}
use Rattle.std.specs.Prelude.{All, slice_get}
use Rattle.std.specs.BinaryHeap.{heap_items}
use Rattle.std.specs.List.Sorted.{IsPermutation}
use Rattle.std.specs.Vec.{with_item}
use Rattle.std.specs.Global.{Vec}
use Rattle.std.proofs.Math.ListN.{set}
use Rattle.std.proofs.lemmas.List.Sorted.{length_permutation}
use Rattle.std.proofs.lemmas.Option.{slice_get_read}
use Rattle.std.proofs.lemmas.List.{drop_all}
use Rattle.cs_grammar.specs.Grammar.{Production}
use Rattle.cs_least.specs.declared.cost.cost.Cost.{Cost}
use Rattle.cs_least.specs.Cost.Rank.{IsCapped, cost_of}
use Rattle.cs_least.specs.Cost.Users.{AreUsers}
use Rattle.cs_least.specs.Cost.Worklist.{offered, IsAt}
use Rattle.cs_least.proofs.OnCost.Rules.{well_formed_at}
use Rattle.cs_least.proofs.OnCost.Counts.{symbols_fit}
use Rattle.cs_least.proofs.OnCost.Settling.{the_candidate, at_settled, front_within, front_unsettled, front_above, fewer, at_less, at_offered}
use Rattle.cs_least.proofs.cost.worklist.settle.Goals as goal
use Rattle.cs_least.proofs.cost.worklist.settle.Goals.{then-left-eq0+in_ok-offer, else-left-eq0}

pub place_of-at-requires : goal.place_of-at-requires
place_of-at-requires c = (the_candidate _ _ _ _ _ _ _ c.requires.taken).number.0

pub index_mut-requires : goal.index_mut-requires
index_mut-requires c =
    omega (arith, (the_candidate _ _ _ _ _ _ _ c.requires.taken).number, c.requires.taken.at.sound.many, c.args.work.now.table.ok.0)

pub index-requires : goal.index-requires
index-requires c =
    omega (arith, (the_candidate _ _ _ _ _ _ _ c.requires.taken).number, c.requires.rules.users.many, c.args.rules.now.users.ok.0)

pub loop-place-init : goal.loop-place-init
loop-place-init c =
    let w = c.args.rules.now.weights.now in
    let g = c.args.rules.now.grammar.now in
    let work = c.args.work.now in
    let n = c.args.number in
    let taken = c.requires.taken in
    let number = (the_candidate _ _ _ _ _ _ _ taken).number in
    let within : n - 1 < length c.args.rules.now.users.items = omega (arith, number, c.requires.rules.users.many) in
    let here : n - 1 + 1 ≡ n = omega (arith, number) in
    let are : AreUsers g n c.deref-place-items.result.now =
    subst (λ (us : List ℕ). AreUsers g n us) (sym (c.deref-place-items.ensures.value ∙ ap (λ (v : Vec ℕ). v.items) (rw c.place_of-at.ensures at c.index.ensures)))
    (subst (λ m. AreUsers g m (get_or c.args.rules.now.users.items (n - 1) c.index.result.now).items) here (c.requires.rules.users.each (n - 1) c.index.result.now within)) in
    let cost : c.cost_of.result ≡ cost_of w.limit c.args.size = c.cost_of.ensures ∙ ap (λ l. cost_of l c.args.size) c.limit.ensures.limit in
    rw c.place_of-at.ensures (record {
      at = subst (λ d. IsAt w g (set work.table.items (n - 1) d) work.unsettled.items (heap_items work.heap) c.args.size c.deref-place-items.result.now (length g.rules)) (sym cost)
          (at_settled w g work.table.items work.unsettled.items (heap_items work.heap) c.args.size n taken c.requires.open c.deref-place-items.result.now are);
      falls = omega arith;
    })

pub index_mut-requires-in-loop-place : goal.index_mut-requires-in-loop-place
index_mut-requires-in-loop-place c =
    omega (arith, front_unsettled _ _ _ _ _ _ _ _ _ c.loop-place-test.true c.loop-place.invariant.at, c.loop-place.work.unsettled.ok.0)

pub overflow_sub-left : goal.overflow_sub-left
overflow_sub-left c =
    front_above _ _ _ _ _ _ _ _ _ c.loop-place-test.true c.loop-place.invariant.at _ c.index-in-loop-place.ensures

pub index-requires-in-loop-place : goal.index-requires-in-loop-place
index-requires-in-loop-place c =
    omega (arith, front_unsettled _ _ _ _ _ _ _ _ _ c.loop-place-test.true c.loop-place.invariant.at, c.loop-place.work.unsettled.ok.0)

pub bounds-rules-place : goal.bounds-rules-place
bounds-rules-place c =
    omega (arith, front_within _ _ _ _ _ _ _ _ _ c.loop-place-test.true c.loop-place.invariant.at, ap (λ (rules : List Production). length rules) c.rules.ensures.rules)

pub offer-requires-clause-table : goal.offer-requires-clause-table
offer-requires-clause-table c =
    subst (All (IsCapped c.args.rules.now.weights.now.limit)) (sym c.deref.ensures.value) c.loop-place.invariant.at.sound.holds.each

pub offer-requires-clause-right : goal.offer-requires-clause-right
offer-requires-clause-right c =
    let g = c.args.rules.now.grammar.now in
    let weighs = c.requires.rules.weighs in
    let within = front_within _ _ _ _ _ _ _ _ _ c.loop-place-test.true c.loop-place.invariant.at in
    let at = slice_get_read _ _ _ c.index-rules-place.result (ap (λ (rules : List Production). length rules) (sym c.rules.ensures.rules)) within c.index-rules-place.is in
    let rule = well_formed_at g _ c.index-rules-place.result weighs.grammar (ap (λ (rules : List Production). slice_get rules (get_or c.deref-place-items.result.now c.loop-place.place-index 0)) (sym c.rules.ensures.rules) ∙ at) in
    symbols_fit _ (sym weighs.each) (sym c.loop-place.invariant.at.sound.many ∙ ap (λ (l : List Cost). length l) (sym c.deref.ensures.value)) rule.right

pub loop-place-preserved : goal.loop-place-preserved
loop-place-preserved c =
    let w = c.args.rules.now.weights.now in
    let g = c.args.rules.now.grammar.now in
    let work = c.loop-place.work in
    let heap = heap_items work.heap in
    let k = get_or c.deref-place-items.result.now c.loop-place.place-index 0 in
    let x = c.index-in-loop-place.result.now in
    let read = c.index-in-loop-place.ensures in
    let within = c.loop-place-test.true in
    let here = c.loop-place.invariant.at in
    let falls = c.loop-place.invariant.falls in
    let less = fewer _ _ _ _ _ _ _ _ _ within here x read in
    elim c.if-left-eq0.branch [
      | then-left-eq0+in_ok-offer v ↦
          let p = v.index-rules-place.result in
          let after = heap_items v.offer.new.heap in
          let at = slice_get_read _ _ k p (ap (λ (rules : List Production). length rules) (sym v.rules.ensures.rules)) (front_within _ _ _ _ _ _ _ _ _ within here) v.index-rules-place.is in
          let rule_is = ap (λ (rules : List Production). slice_get rules k) (sym v.rules.ensures.rules) ∙ at in
          let joins = subst (λ (t : List Cost). IsPermutation (offered w t p ∷ heap) after) v.deref.ensures.value v.in_ok-offer.ensures.joins in
          let is : c.if-left-eq0.work ≡ record { table = work.table; unsettled = with_item work.unsettled k (x - 1); heap = v.offer.new.heap } = v.work-is in
          rw is (record {
            at = at_offered _ _ _ _ _ _ _ _ _ within here x read p after c.requires.rules.weighs.grammar rule_is v.if-left-eq0.true joins v.in_ok-offer.ensures.ordered;
            falls = omega (arith, less, falls, length_permutation (offered w work.table.items p ∷ heap) after joins);
          })
      | else-left-eq0 v ↦
          rw v.work-is (record {
            at = at_less _ _ _ _ _ _ _ _ _ within here x read v.if-left-eq0.false;
            falls = omega (arith, less, falls);
          })
    ]

pub returns-clause-ready : goal.returns-clause-ready
returns-clause-ready c =
    subst (λ (us : List ℕ). IsAt c.args.rules.now.weights.now c.args.rules.now.grammar.now c.loop-place.work.table.items c.loop-place.work.unsettled.items (heap_items c.loop-place.work.heap) c.args.size us (length c.args.rules.now.grammar.now.rules))
    (drop_all c.loop-place.place-index c.deref-place-items.result.now c.loop-place-test.false) c.loop-place.invariant.at

pub returns-clause-falls : goal.returns-clause-falls
returns-clause-falls c = c.loop-place.invariant.falls
