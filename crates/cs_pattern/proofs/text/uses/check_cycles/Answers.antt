-- A definition none of whose items leads to it doesn't reach itself, so the first that has one is the one refused.
use Rattle.std.proofs.Common.{◌≡◌, ℕ, List, length, refl, sym, ap, subst, arith, inl, inr}
use Rattle.std.specs.Prelude.{Some, slice_get}
use Rattle.std.specs.List.{AllByRecursion}
use Rattle.std.proofs.lemmas.Option.{slice_get_read, slice_get_within}
use Rattle.cs_graph.proofs.Pushing.{below_next}
use Rattle.cs_pattern_parts.specs.declared.items.item.Placed as held
use Rattle.cs_pattern_parts.specs.Items.Views.{placed_all}
use Rattle.cs_pattern.specs.Operations.Definitions.{definitions_of}
use Rattle.cs_pattern.specs.Text.Stages.{AreComponents, AreItemsOf}
use Rattle.cs_pattern.specs.Text.Uses.{LeadsTo, Reaches, IsFirstTo}
use Rattle.cs_pattern.proofs.OnText.Linked.{is_graph, components_of_uses, reaches_first}
use Rattle.cs_pattern.proofs.OnText.Staged.{few, cyclic_at, not_cyclic, uses_of_items}
use Rattle.cs_pattern.proofs.text.uses.check_cycles.Goals as goal

pub fault_at-requires : goal.fault_at-requires
fault_at-requires c =
    let few_texts = few (definitions_of c.args.names.now.entries) c.args.all.now c.requires.read in
    let size = c.requires.read.count in
    omega arith

pub components-requires : goal.components-requires
components-requires c = is_graph (definitions_of c.args.names.now.entries) c.args.graph.now c.requires.graph

pub first_to-requires-clause-numbers : goal.first_to-requires-clause-numbers
first_to-requires-clause-numbers c =
    let ds = definitions_of c.args.names.now.entries in
    subst (AreComponents ds) (sym c.deref-in-loop-index.ensures.value) (components_of_uses ds c.args.graph.now c.requires.graph c.in_ok-components.components.items c.in_ok-components.ensures)

pub first_to-requires-clause-to : goal.first_to-requires-clause-to
first_to-requires-clause-to c =
    let size = c.requires.read.count in
    let rows = c.requires.graph.count in
    let count = c.in_ok-components.ensures.size in
    omega (arith, ap (λ (xs : List ℕ). length xs) c.deref-in-loop-index.ensures.value)

pub first_to-requires-clause-items : goal.first_to-requires-clause-items
first_to-requires-clause-items c =
    let ds = definitions_of c.args.names.now.entries in
    let is : slice_get c.args.all.now c.loop-index.index ≡ Some c.index-all-index.result = slice_get_read c.args.all.now _ c.loop-index.index c.index-all-index.result refl (omega arith) c.index-all-index.is in
    subst (λ (xs : List held.Placed). AreItemsOf ds c.loop-index.index (placed_all xs)) (sym c.deref.ensures.value) (uses_of_items ds c.args.all.now c.requires.read c.loop-index.index c.index-all-index.result is)

pub returns-in-Some-clause-refused : goal.returns-in-Some-clause-refused
returns-in-Some-clause-refused c =
    let ds = definitions_of c.args.names.now.entries in
    let is : slice_get c.args.all.now c.loop-index.index ≡ Some c.index-all-index.result = slice_get_read c.args.all.now _ c.loop-index.index c.index-all-index.result refl (omega arith) c.index-all-index.is in
    let first = rw c.in-Some.is at c.first_to.ensures in
    rw c.fault_at.ensures
    (cyclic_at ds c.args.all.now c.requires.read c.loop-index.index c.in-Some.at c.index-all-index.result is c.requires.named (subst (λ (xs : List held.Placed). IsFirstTo ds c.loop-index.index (placed_all xs) c.in-Some.at) c.deref.ensures.value first) c.loop-index.invariant)

pub loop-index-preserved : goal.loop-index-preserved
loop-index-preserved c = λ i lt r.
    let ds = definitions_of c.args.names.now.entries in
    elim (below_next i c.loop-index.index lt) [
      | inl before ↦ c.loop-index.invariant i before r
      | inr here ↦
          let is : slice_get c.args.all.now c.loop-index.index ≡ Some c.index-all-index.result = slice_get_read c.args.all.now _ c.loop-index.index c.index-all-index.result refl (omega arith) c.index-all-index.is in
          let none = rw c.in_default.is at c.first_to.ensures in
          let without = subst (λ (xs : List held.Placed). AllByRecursion (λ p. LeadsTo ds c.loop-index.index p → ⊥) (placed_all xs)) c.deref.ensures.value none in
          not_cyclic ds c.args.all.now c.requires.read c.loop-index.index c.index-all-index.result is without (subst (λ n. Reaches ds n n) here r)
    ]

pub returns-clause-none : goal.returns-clause-none
returns-clause-none c = λ i r.
    let u = (reaches_first (definitions_of c.args.names.now.entries) i i r).1 in
    let lt = slice_get_within (definitions_of c.args.names.now.entries) i u.definition u.is in
    let size = c.requires.read.count in
    c.loop-index.invariant i (omega arith) r
