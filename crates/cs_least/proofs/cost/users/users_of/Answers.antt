-- The lists of the rules before get one rule more, until they are those of all rules.
use Rattle.std.proofs.Common.{◌+◌, List, length, refl, sym, ap, ◌∙◌, subst, arith}
use Rattle.std.specs.Prelude.{slice_get}
use Rattle.std.proofs.lemmas.Option.{slice_get_read}
use Rattle.cs_grammar.specs.Grammar.{Production}
use Rattle.cs_least.specs.Cost.Users.{AddsUser}
use Rattle.cs_least.proofs.OnCost.UserLists.{UserTableBelow, users_more, users_all, whole_written}
use Rattle.cs_least.proofs.cost.users.users_of.Goals as goal

pub loop-place-preserved : goal.loop-place-preserved
loop-place-preserved c =
    let g = c.args.grammar.now in
    let i = c.loop-place.place in
    let q = c.rule-item.result in
    let here = slice_get_read _ _ i q refl c.loop-place-test.true c.rule-item.is in
    let at = ap (λ (rules : List Production). slice_get rules i) (sym c.rules-rule-items.ensures.rules) ∙ here in
    let old = c.loop-place.users.items in
    let new = c.add_user.new.users in
    let adds : AddsUser i q.right old new =
    rw (← c.right.ensures, ← c.deref_mut.ensures.value) c.in_ok-add_user.ensures in
    subst (λ l. UserTableBelow g l (i + 1)) (sym (whole_written old new c.loop-place.users.len adds.many c.loop-place.users.ok.0))
    (users_more g old new i q at c.loop-place.invariant adds)

pub returns : goal.returns
returns c =
    users_all _ _ _ (omega (arith, c.loop-place-test.false, c.loop-place.auto.place-end, ap (λ (rules : List Production). length rules) c.rules-rule-items.ensures.rules)) c.loop-place.invariant
