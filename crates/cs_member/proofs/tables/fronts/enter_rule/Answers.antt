-- One symbol more is entered; fronts end behind the first that has no empty tree.
use Rattle.std.proofs.Common.{◌≡◌, ℕ, ◌+◌, ◌<◌, ◌≤◌, inl, inr, List, get_or, Some, length, refl, sym, ap, ◌∙◌, subst, arith}
use Rattle.std.specs.Prelude.{slice_get}
use Rattle.std.proofs.lemmas.Option.{slice_get-get_or}
use Rattle.std.proofs.lemmas.Bool.{false≢true}
use Rattle.cs_grammar.specs.declared.symbol.Symbol.{Symbol}
use Rattle.cs_grammar.specs.declared.symbol.Symbol.TheVariants.{Token, Nonterminal}
use Rattle.cs_grammar.specs.Grammar.{Production}
use Rattle.cs_grammar.proofs.OneTree.{one_rule}
use Rattle.cs_member.specs.declared.tables.item.Item.{Item}
use Rattle.cs_member.specs.Tables.Item.{Awaits, IsFront, IsEmpty}
use Rattle.cs_member.specs.Tables.Fronts.{AreEntered}
use Rattle.cs_member.specs.Tables.Tables.{HasEmpty}
use Rattle.cs_member.proofs.OnTables.Entering.{Before, entered_more, entered_symbol, before_next, before_whole, before_cut, front_first, front_next, kept_empty, empty_kept, empty_symbol}
use Rattle.cs_member.proofs.OnChart.Putting.{awaited_within}
use Rattle.cs_member.proofs.tables.fronts.enter_rule.Goals as goal
use Rattle.cs_member.proofs.tables.fronts.enter_rule.Goals.{In_ok-enter_item}

pub loop-place-init : goal.loop-place-init
loop-place-init c =
    let g = c.args.grammar.now in
    let r = c.args.rule in
    record {
      entered = entered_more g (λ x. x.rule < r) (Before r 0) c.args.fronts.now c.requires.before (λ y a s h f w. elim h [ inl less ↦ less | inr same ↦ absurd (let lt = same.1 in omega arith) ]);
      front = subst (λ n. IsFront g n (record { rule = r; place = 0 })) (sym c.left-left.ensures) (front_first g r c.rule.result.now c.rule.ensures.rule);
    }

-- the symbol at the place
at_place : (c : In_ok-enter_item) → slice_get c.rule.result.now.right c.loop-place.place ≡ Some (get_or c.right-symbols.result.now c.loop-place.place (Token 0))
at_place c =
    let same : c.rule-2.result.now ≡ c.rule.result.now = one_rule c.args.grammar.now c.args.rule c.args.rule c.rule-2.result.now c.rule.result.now refl c.rule-2.ensures.rule c.rule.ensures.rule in
    let right : c.right-symbols.result.now ≡ c.rule.result.now.right = c.right-symbols.ensures ∙ ap (λ (q : Production). q.right) same in
    ap (λ (l : List Symbol). slice_get l c.loop-place.place) (sym right) ∙ slice_get-get_or c.right-symbols.result.now c.loop-place.place (Token 0) c.loop-place-test.true

awaits : (c : In_ok-enter_item) → Awaits c.args.grammar.now (record { rule = c.args.rule; place = c.loop-place.place }) (get_or c.right-symbols.result.now c.loop-place.place (Token 0))
awaits c = record { rule = c.rule.result.now; number = c.rule.ensures.rule; at = at_place c }

low : (c : In_ok-enter_item) (b : ℕ) → get_or c.right-symbols.result.now c.loop-place.place (Token 0) ≡ Nonterminal b → b ≤ c.args.grammar.now.nonterminals
low c b is =
    let x : Item = record { rule = c.args.rule; place = c.loop-place.place } in
    (awaited_within c.args.grammar.now x b c.rule.result.now c.rule.ensures.rule c.rule.ensures.fits (subst (λ (t : Symbol). Awaits c.args.grammar.now x t) is (awaits c))).1

-- the rule's fronts up to it
entered : (c : In_ok-enter_item) → AreEntered c.args.grammar.now (Before c.args.rule (c.loop-place.place + 1)) c.enter_item.new.fronts
entered c =
    let g = c.args.grammar.now in
    let r = c.args.rule in
    let k = c.loop-place.place in
    let s : Symbol = get_or c.right-symbols.result.now k (Token 0) in
    let x : Item = record { rule = r; place = k } in
    entered_symbol g (Before r k) (Before r (k + 1)) c.left-left.result x c.loop-place.fronts c.enter_item.new.fronts c.loop-place.invariant.entered c.loop-place.invariant.front
    (before_next g r c.rule.result.now c.rule.ensures.rule k) s (low c) (awaits c) c.in_ok-enter_item.ensures

pub loop-place-preserved : goal.loop-place-preserved
loop-place-preserved c =
    let was = (goal.at.loop-place-preserved c).In_ok-enter_item in
    let g = c.args.grammar.now in
    let r = c.args.rule in
    let k = c.loop-place.place in
    let p = c.rule.result.now in
    let empty = empty_symbol c.args.empties.now (get_or c.right-symbols.result.now k (Token 0)) (c.if-not-has_empty.ensures.0 refl) in
    let front : IsFront g p.left (record { rule = r; place = k }) = subst (λ n. IsFront g n (record { rule = r; place = k })) c.left-left.ensures c.loop-place.invariant.front in
    record {
      entered = entered was;
      front = subst (λ n. IsFront g n (record { rule = r; place = k + 1 })) (sym c.left-left.ensures)
          (front_next g r p c.rule.ensures.rule k empty.0 front (at_place was ∙ ap Some empty.1) (empty_kept g c.args.empties.now empty.0 c.requires.empties empty.2));
    }

pub returns-then-not-has_empty : goal.returns-then-not-has_empty
returns-then-not-has_empty c =
    let was = (goal.at.returns-then-not-has_empty c).In_ok-enter_item in
    let g = c.args.grammar.now in
    let r = c.args.rule in
    let k = c.loop-place.place in
    let s : Symbol = get_or c.right-symbols.result.now k (Token 0) in
    let never : (b : ℕ) → s ≡ Nonterminal b → IsEmpty g b → ⊥ =
    λ b is empty. (let kept = subst (λ (t : Symbol). HasEmpty c.args.empties.now t) (sym is) (kept_empty g c.args.empties.now b c.requires.empties (low was b is) empty) in false≢true (c.if-not-has_empty.ensures.1 kept)) in
    entered_more g (Before r (k + 1)) (λ y. y.rule < r + 1) c.enter_item.new.fronts (entered was) (before_cut g r c.rule.result.now c.rule.ensures.rule k s (at_place was) never)

pub returns : goal.returns
returns c =
    let g = c.args.grammar.now in
    let r = c.args.rule in
    let p = c.rule.result.now in
    let same : c.rule-2.result.now ≡ p = one_rule g r r c.rule-2.result.now p refl c.rule-2.ensures.rule c.rule.ensures.rule in
    let right : c.right-symbols.result.now ≡ p.right = c.right-symbols.ensures ∙ ap (λ (q : Production). q.right) same in
    let long = ap (λ (l : List Symbol). length l) right in
    let end = c.loop-place-test.false in
    entered_more g (Before r c.loop-place.place) (λ x. x.rule < r + 1) c.loop-place.fronts c.loop-place.invariant.entered
    (before_whole g r p c.rule.ensures.rule c.loop-place.place (omega arith))
