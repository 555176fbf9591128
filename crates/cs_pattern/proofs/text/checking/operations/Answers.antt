-- One definition more has the operations of its items, and those before keep theirs.
use Rattle.std.proofs.Common.{◌≡◌, ◌∙◌, List, refl, sym, ap, subst, arith, inl, inr, ◌∷◌, [], length-append}
use Rattle.std.specs.Prelude.{Some, slice_get}
use Rattle.std.proofs.lemmas.Option.{slice_get_read, slice_get_within}
use Rattle.cs_graph.proofs.Pushing.{below_next}
use Rattle.cs_pattern_parts.specs.declared.items.item.Placed as held
use Rattle.cs_pattern_parts.specs.Items.Items.{items_of}
use Rattle.cs_pattern_parts.specs.Items.Views.{placed_all}
use Rattle.cs_pattern.specs.Operations.Definitions.{definitions_of}
use Rattle.cs_pattern.specs.Operations.Grammar.{IsDerivation}
use Rattle.cs_pattern.proofs.OnText.Staged.{operations_push, operations_new}
use Rattle.cs_pattern.proofs.text.checking.operations.Goals as goal

pub loop-items-preserved : goal.loop-items-preserved
loop-items-preserved c =
    let ds = definitions_of c.args.texts.now.entries in
    let k = c.loop-items.items-index in
    let size = c.loop-items.invariant.count in
    let is : slice_get c.args.all.now k ≡ Some c.items-item.result = slice_get_read c.args.all.now _ k c.items-item.result refl (omega arith) c.items-item.is in
    rw c.in_ok-push.ensures.items
    record {
      count = omega (arith, length-append c.loop-items.bodies.items (c.in_ok-postfix.field-0 ∷ []), size);
      each = λ i d lt at. elim (below_next i k lt) [
        | inl before ↦ operations_push ds c.loop-items.bodies.items c.in_ok-postfix.field-0 i d.text (omega arith) (c.loop-items.invariant.each i d before at)
        | inr here ↦
            let h = c.requires.each i d at in
            let there : slice_get c.args.all.now k ≡ Some h.items = subst (λ n. slice_get c.args.all.now n ≡ Some h.items) here h.there in
            let same : h.items.items ≡ c.deref.result.now = (let f : h.items ≡ c.items-item.result = cc (is, there) in ap (λ v. v.items) f) ∙ sym c.deref.ensures.value in
            operations_new ds c.loop-items.bodies.items c.in_ok-postfix.field-0 i d.text (placed_all h.items.items) (omega arith) h.read
            (λ tree e. c.in_ok-postfix.ensures tree (subst (λ (xs : List held.Placed). IsDerivation (items_of (placed_all xs)) tree) same e))
      ];
    }

pub returns : goal.returns
returns c = record {
  count = let size = c.loop-items.invariant.count in let all = c.requires.count in omega arith;
  each = λ i d at. c.loop-items.invariant.each i d (let h = c.requires.each i d at in let lt = slice_get_within c.args.all.now i h.items h.there in omega arith) at;
}
