-- An open nonterminal is awaited where it stands at the place below a node with the outer rule.
use Rattle.std.proofs.Common.{◌≡◌, ◌+◌, ◌++◌, ◌∷◌, [], ℕ, List, Bool, true, false, drop, get_or, reverse, refl, sym, ap, subst, ◌∙◌}
use Rattle.std.proofs.lemmas.List.{drop_all}
use Rattle.cs_grammar.specs.declared.symbol.Symbol.{Symbol}
use Rattle.cs_grammar.specs.Grammar.{Production}
use Rattle.cs_grammar.proofs.Measures.{IsNumberOf-rule}
use Rattle.cs_grammar.proofs.OneTree.{one_rule}
use Rattle.cs_goals.specs.declared.goal.Goal.TheVariants.{Context}
use Rattle.cs_goals.specs.Awaits.{awaits}
use Rattle.cs_goals.specs.Meets.{IsMeeting}
use Rattle.cs_goals.proofs.Awaiting.{Waits, waits_none, waits_all, turn, popped}
use Rattle.cs_goals.proofs.meeting.has_occurrence.Goals as goal
use Rattle.cs_goals.proofs.meeting.has_occurrence.Goals.{else-is_awaited-via-then-is_awaited+else-number-occurrence, else-is_awaited-via-else-is_awaited, then-number-occurrence-2, else-number-occurrence-2}

pub loop-number-init : goal.loop-number-init
loop-number-init c =
    let g = c.args.grammar.now in
    let start = waits_none g c.args.derivation.now c.args.occurrence.outer c.args.occurrence.place c.args.occurrence.inner c.requires in
    let at_start = subst (λ (rules : List ℕ). Waits g rules rules (false ∷ []) c.args.occurrence.outer c.args.occurrence.place c.args.occurrence.inner) (sym c.rules-number-items.ensures) start in
    rw c.in_ok-pending.ensures.items at_start

pub returns-then-number-occurrence : goal.returns-then-number-occurrence
returns-then-number-occurrence c =
    let g = c.args.grammar.now in
    let t = turn g c.rules-number-items.result.now c.args.occurrence.outer c.args.occurrence.place c.args.occurrence.inner c.loop-number.number-index (reverse c.loop-number.pending.items) c.loop-number-test.true c.loop-number.invariant in
    let top = popped c.loop-number.pending.items _ c.pop.result _ _ t.awaited t.others c.pop.ensures.items c.pop.ensures.cases c.loop-number.pending.ok.0 t.pending_is in
    let met = t.met (sym top.0 ∙ sym c.unwrap_or-is_awaited.ensures ∙ c.if-is_awaited.true) c.if-number-occurrence.true in
    (λ _. subst (IsMeeting g (Context c.args.occurrence.outer c.args.occurrence.place c.args.occurrence.inner)) c.rules-number-items.ensures met, λ _. refl)

pub rule-rule-requires : goal.rule-rule-requires
rule-rule-requires c =
    let t = turn c.args.grammar.now c.rules-number-items.result.now c.args.occurrence.outer c.args.occurrence.place c.args.occurrence.inner c.loop-number.number-index (reverse c.loop-number.pending.items) c.loop-number-test.true c.loop-number.invariant in
    IsNumberOf-rule c.args.grammar.now _ t.rule t.number

pub loop-number-preserved : goal.loop-number-preserved
loop-number-preserved c =
    let g = c.args.grammar.now in
    let rules = c.rules-number-items.result.now in
    let at = c.loop-number.number-index in
    let place = c.if-number-occurrence-2.await_child in
    let t = turn g rules c.args.occurrence.outer c.args.occurrence.place c.args.occurrence.inner at (reverse c.loop-number.pending.items) c.loop-number-test.true c.loop-number.invariant in
    let top = popped c.loop-number.pending.items _ c.pop.result _ _ t.awaited t.others c.pop.ensures.items c.pop.ensures.cases c.loop-number.pending.ok.0 t.pending_is in
    let not_met : t.awaited ≡ true → get_or rules at 0 ≡ c.args.occurrence.inner → ⊥ = λ yes is. elim c.else-is_awaited.branch [
      | else-is_awaited-via-then-is_awaited+else-number-occurrence w ↦ w.if-number-occurrence.false is
      | else-is_awaited-via-else-is_awaited w ↦
          (let flag : c.unwrap_or-is_awaited.result ≡ true = c.unwrap_or-is_awaited.ensures ∙ top.0 ∙ yes in let other = w.if-is_awaited.false in cc)
    ] in
    let is_outer : get_or rules at 0 ≡ c.args.occurrence.outer → place ≡ c.args.occurrence.place = λ same. elim c.if-number-occurrence-2.branch [
      | then-number-occurrence-2 w ↦ w.await_child-is
      | else-number-occurrence-2 w ↦ absurd (w.if-number-occurrence-2.false same)
    ] in
    let not_outer : (get_or rules at 0 ≡ c.args.occurrence.outer → ⊥) → place ≡ 0 = λ other. elim c.if-number-occurrence-2.branch [
      | then-number-occurrence-2 w ↦ absurd (other w.if-number-occurrence-2.true)
      | else-number-occurrence-2 w ↦ w.await_child-is
    ] in
    let after = t.next not_met place is_outer not_outer in
    let rule = one_rule g (get_or rules at 0) (get_or rules at 0) t.rule c.rule-rule.result.now refl t.number c.rule-rule.ensures.rule in
    let same : awaits place t.rule.right ++ t.others ≡ reverse c.await_child.new.pending.items =
    ap (λ (p : Production). awaits place p.right ++ t.others) rule
    ∙ ap (λ (l : List Bool). awaits place c.rule-rule.result.now.right ++ l) (sym top.1)
    ∙ ap (λ (xs : List Symbol). awaits place xs ++ reverse c.pop.new.self.items) (sym c.right.ensures)
    ∙ sym c.in_ok-await_child.ensures in
    subst (λ (l : List Bool). Waits g rules (drop (at + 1) rules) l c.args.occurrence.outer c.args.occurrence.place c.args.occurrence.inner) same after

pub returns : goal.returns
returns c =
    let g = c.args.grammar.now in
    let rules = c.rules-number-items.result.now in
    let context = Context c.args.occurrence.outer c.args.occurrence.place c.args.occurrence.inner in
    let never = waits_all g rules c.args.occurrence.outer c.args.occurrence.place c.args.occurrence.inner (reverse c.loop-number.pending.items) (drop c.loop-number.number-index rules) (drop_all c.loop-number.number-index rules c.loop-number-test.false) c.loop-number.invariant in
    (λ no. absurd cc, λ m. absurd (never (subst (IsMeeting g context) (sym c.rules-number-items.ensures) m)))
