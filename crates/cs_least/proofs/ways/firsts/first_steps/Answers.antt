-- A tight step to a node that has no first step yet becomes its first one, and each other step is passed.
use Rattle.std.proofs.Common.{◌≡◌, ◌≤◌, ℕ, List, Option, None, Some, length, get_or, refl, sym, ap, ◌∙◌, subst, rules}
use Rattle.std.proofs.lemmas.Bool.{false≢true}
use Rattle.std.proofs.lemmas.Option.{slice_get-get_or}
use Rattle.std.specs.Prelude.{slice_get}
use Rattle.cs_least.specs.declared.ways.step.Step.{Step}
use Rattle.cs_least.proofs.OnWays.FirstTight.{FirstsSoFar, firsts_start, firsts_kept, firsts_more, firsts_all, step_to}
use Rattle.cs_least.proofs.ways.firsts.first_steps.Goals as goal
use Rattle.cs_least.proofs.ways.firsts.first_steps.Goals.{then-is_first, else-is_first}

read_at : {xs ys : List (Option ℕ)} (k : ℕ) → xs ≡ ys → get_or xs k None ≡ None → get_or ys k None ≡ None
read_at k same e = ap (λ (l : List (Option ℕ)). get_or l k None) (sym same) ∙ e

pub loop-place-init : goal.loop-place-init
loop-place-init c =
    let items = c.in_ok-firsts.ensures.items_if_clones_equal (λ y e. search rules) in
    subst (λ (l : List (Option ℕ)). FirstsSoFar c.args.steps.now.steps c.args.table.now l 0) (sym items) (firsts_start c.args.steps.now.steps c.args.table.now _ refl)

pub loop-place-preserved : goal.loop-place-preserved
loop-place-preserved c =
    let steps = c.args.steps.now.steps in
    let table = c.args.table.now in
    let i = c.loop-place.place in
    let none : Step = record { from = 0; to = 0; cost = 0 } in
    let items = c.list-step-items.result.now in
    let s = get_or items i none in
    let at : slice_get steps i ≡ Some s = ap (λ (l : List Step). slice_get l i) (sym c.list-step-items.ensures.is) ∙ slice_get-get_or items i none c.loop-place-test.true in
    let node = step_to c.args.steps.now (length table) i s c.list-step-items.ensures.net c.requires at in
    elim c.if-is_first.branch [
      | then-is_first w ↦
          let first = c.is_first.ensures.0 w.if-is_first.true in
          rw (w.firsts-is, w.place_of.ensures)
          (firsts_more steps table _ i s at c.loop-place.invariant node (read_at _ c.deref.ensures.value first.unknown) first.tight)
      | else-is_first w ↦
          rw w.firsts-is
          (firsts_kept steps table _ i s at c.loop-place.invariant node.0
          (λ unset tight. false≢true (sym w.if-is_first.false ∙ c.is_first.ensures.1 (record { unknown = read_at _ (sym c.deref.ensures.value) unset; tight = tight }))))
    ]

pub returns : goal.returns
returns c =
    let all = subst (λ (l : List Step). length l ≤ c.loop-place.place) c.list-step-items.ensures.is c.loop-place-test.false in
    λ limit sources exact. firsts_all limit c.args.steps.now sources c.args.table.now exact c.loop-place.place all c.loop-place.firsts.items c.loop-place.invariant
