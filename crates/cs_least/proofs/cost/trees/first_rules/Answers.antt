-- A rule is taken where its left side has none yet and it costs what the table says, else it is passed.
use Rattle.std.proofs.Common.{◌≡◌, ◌≤◌, ℕ, List, Option, None, length, get_or, replicate, refl, sym, ap, ◌∙◌, subst, rules}
use Rattle.std.specs.Prelude.{slice_get}
use Rattle.std.proofs.lemmas.Bool.{false≢true}
use Rattle.std.proofs.lemmas.Option.{slice_get_read}
use Rattle.cs_grammar.specs.Grammar.{Production}
use Rattle.cs_least.proofs.OnCost.FirstRules.{FirstsSoFar, firsts_start, step_taken, step_passed, firsts_all}
use Rattle.cs_least.proofs.cost.trees.first_rules.Goals as goal
use Rattle.cs_least.proofs.cost.trees.first_rules.Goals.{then-is_first, else-is_first}

read_at : {xs ys : List (Option ℕ)} (k : ℕ) → xs ≡ ys → get_or xs k None ≡ None → get_or ys k None ≡ None
read_at k same e = ap (λ (l : List (Option ℕ)). get_or l k None) (sym same) ∙ e

pub loop-place-init : goal.loop-place-init
loop-place-init c =
    let items = c.in_ok-firsts.ensures.items_if_clones_equal (λ y e. search rules) in
    let all = items ∙ ap (λ n. replicate n None) c.nonterminals.ensures in
    subst (λ (l : List (Option ℕ)). FirstsSoFar c.args.weights.now c.args.grammar.now c.args.table.now l 0) (sym all) (firsts_start c.args.weights.now c.args.grammar.now _)

pub loop-place-preserved : goal.loop-place-preserved
loop-place-preserved c =
    let m = c.args.weights.now in
    let g = c.args.grammar.now in
    let table = c.args.table.now in
    let i = c.loop-place.place in
    let q = c.rule-item.result in
    let here = slice_get_read _ _ i q refl c.loop-place-test.true c.rule-item.is in
    let at = ap (λ (rules : List Production). slice_get rules i) (sym c.rules-rule-items.ensures.rules) ∙ here in
    elim c.if-is_first.branch [
      | then-is_first w ↦
          let first = c.is_first.ensures.0 w.if-is_first.true in
          rw (w.firsts-is, w.place_of.ensures, w.number_of.ensures)
          (step_taken m g table _ i q _ _ c.requires at c.left-left.ensures c.right.ensures c.loop-place.invariant
          (read_at _ c.deref.ensures.value first.unknown) first.cost)
      | else-is_first w ↦
          rw w.firsts-is
          (step_passed m g table _ i q _ _ c.requires at c.left-left.ensures c.right.ensures c.loop-place.invariant
          (λ first. false≢true (sym w.if-is_first.false ∙ c.is_first.ensures.1 (record { unknown = read_at _ (sym c.deref.ensures.value) first.0; cost = first.1 }))))
    ]

pub returns : goal.returns
returns c =
    firsts_all c.args.weights.now _ _ _ _ c.requires (subst (λ (rules : List Production). length rules ≤ c.loop-place.place) c.rules-rule-items.ensures.rules c.loop-place-test.false) c.loop-place.invariant
