-- Fewer alike ones were counted than are kept, and the pair is the only one; then it is counted too.
use Rattle.std.proofs.Common.{◌≡◌, ◌↔◌, ◌+◌, ◌<◌, ℕ, List, true, length, sym, ap, ◌∙◌, subst, Option, arith}
use Rattle.std.specs.Prelude.{IsTrue, slice_index}
use Rattle.std.proofs.lemmas.Grind.{get_or_default_zero}
use Rattle.cs_goals.specs.Goal.{IsLeft}
use Rattle.cs_mutate.specs.declared.negative.Negative.{Negative}
use Rattle.cs_mutate.specs.Kept.{IsKept}
use Rattle.cs_mutate.specs.Keeping.{Counters, Tells, many_counts, slot_of}
use Rattle.cs_mutate.proofs.Alike.{both_kept, tells_more}
use Rattle.cs_mutate.proofs.kept.Keeper.keeps.Goals as goal

pub returns-clause-kept : goal.returns-clause-kept
returns-clause-kept c =
    let g = c.args.search.now.grammar in
    let w = c.args.search.now.base in
    let n = c.args.negative.now in
    let inside = c.self.inside in
    let items = inside.counts.items in
    let slot = c.slot-slot.result in
    let most = c.in-Some.most in
    let counters : Counters = record { first = inside.first; tokens = inside.tokens; counts = items } in
    let left = subst (λ (k : Counters). IsLeft k.tokens n.left) (sym c.self.view_is) c.requires.left in
    let many = ap (λ (f : Option ℕ). many_counts f inside.tokens) c.in-Some.is in
    let within : slot < length items = omega (arith, c.slot-slot.ensures.within, c.self.invariant, many) in
    let read : c.index.result.now ≡ slice_index items slot = c.index.ensures ∙ get_or_default_zero items slot _ within in
    let moved = ap (λ (k : ℕ). slice_index items k) c.slot-slot.ensures.slot in
    let few : slice_index items (slot_of inside.tokens n) < most = omega (arith, c.if-most-index.false, read, moved) in
    subst (λ (k : Counters). (before : List Negative) → Tells k before → IsTrue true ↔ IsKept g w k.first before n) c.self.view_is
    (λ before told. both_kept g w n most counters c.in-Some.is left before told few (c.in_ok-is_only.ensures.0 c.if-not-branch.false))

pub returns-clause-told : goal.returns-clause-told
returns-clause-told c = λ before told.
    let n = c.args.negative.now in
    let inside = c.self.inside in
    let items = inside.counts.items in
    let slot = c.slot-slot.result in
    let left = subst (λ (k : Counters). IsLeft k.tokens n.left) (sym c.self.view_is) c.requires.left in
    let many = ap (λ (f : Option ℕ). many_counts f inside.tokens) c.in-Some.is in
    let within : slot < length items = omega (arith, c.slot-slot.ensures.within, c.self.invariant, many) in
    let now : c.index_mut.result.now + 1 ≡ slice_index items slot + 1 = ap (λ (k : ℕ). k + 1) (c.index_mut.ensures.value ∙ get_or_default_zero items slot _ within) in
    tells_more inside.tokens c.in-Some.most slot (c.index_mut.result.now + 1) items inside.first n c.in-Some.is left c.slot-slot.ensures.slot within now before
    (subst (λ (k : Counters). Tells k before) (sym c.self.view_is) told)
