-- Text by text the names before are defined, so the first name that isn't refuses the definitions.
use Rattle.std.proofs.Common.{◌≡◌, ◌∙◌, List, refl, sym, ap, subst, arith, inl, inr}
use Rattle.std.specs.Prelude.{Some, slice_get}
use Rattle.std.specs.Global.{Vec}
use Rattle.std.proofs.lemmas.Option.{slice_get_read, slice_get_within}
use Rattle.cs_graph.proofs.Pushing.{below_next}
use Rattle.cs_pattern_parts.specs.declared.items.item.Placed as held
use Rattle.cs_pattern_parts.specs.Items.Views.{placed_all}
use Rattle.cs_pattern.specs.Operations.Definitions.{definitions_of}
use Rattle.cs_pattern.specs.Text.Names.{first_undefined}
use Rattle.cs_pattern.proofs.OnText.Staged.{few, undefined_at}
use Rattle.cs_pattern.proofs.text.checking.check_names.Goals as goal

pub fault_at-requires : goal.fault_at-requires
fault_at-requires c =
    let few_texts = few (definitions_of c.args.texts.now.entries) c.args.all.now c.requires.read in
    let size = c.requires.read.count in
    omega arith

pub returns-in-Some-clause-refused : goal.returns-in-Some-clause-refused
returns-in-Some-clause-refused c =
    let ds = definitions_of c.args.texts.now.entries in
    let is : slice_get c.args.all.now c.loop-index.index ≡ Some c.index-all-index.result = slice_get_read c.args.all.now _ c.loop-index.index c.index-all-index.result refl (omega arith) c.index-all-index.is in
    rw c.fault_at.ensures
    (undefined_at ds c.args.all.now c.requires.read c.loop-index.index c.in-Some.at c.index-all-index.result is (ap (λ (xs : List held.Placed). first_undefined ds (placed_all xs)) (sym c.deref.ensures.value) ∙ sym c.in-Some.ensures) c.loop-index.invariant)

pub loop-index-preserved : goal.loop-index-preserved
loop-index-preserved c = λ i items lt e.
    let ds = definitions_of c.args.texts.now.entries in
    elim (below_next i c.loop-index.index lt) [
      | inl before ↦ c.loop-index.invariant i items before e
      | inr here ↦
          let is : slice_get c.args.all.now c.loop-index.index ≡ Some c.index-all-index.result = slice_get_read c.args.all.now _ c.loop-index.index c.index-all-index.result refl (omega arith) c.index-all-index.is in
          let there : slice_get c.args.all.now c.loop-index.index ≡ Some items = subst (λ n. slice_get c.args.all.now n ≡ Some items) here e in
          let same : items ≡ c.index-all-index.result = cc (is, there) in
          ap (λ (v : Vec held.Placed). first_undefined ds (placed_all v.items)) same ∙ ap (λ (xs : List held.Placed). first_undefined ds (placed_all xs)) (sym c.deref.ensures.value) ∙ sym c.in_default.ensures
    ]

pub returns-clause-named : goal.returns-clause-named
returns-clause-named c = λ i items e. let lt = slice_get_within c.args.all.now i items e in c.loop-index.invariant i items (omega arith) e
