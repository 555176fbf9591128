-- Where no uses are cyclic, each definition has a tree, whose measure says whether it is within the limits.
use Rattle.std.proofs.Common.{◌≡◌, ◌<◌, ◌∙◌, ℕ, List, length, get_or, sym, ap, subst, arith}
use Rattle.std.proofs.lemmas.List.{length-map}
use Rattle.std.proofs.lemmas.List.Elements.{Contains-get_or}
use Rattle.std.proofs.lemmas.Result.{err_from_is_err_and}
use Rattle.cs_pattern.specs.Text.Checked.{IsOrder}
use Rattle.cs_pattern.specs.Text.Checking.{Each, HasAllNames, RefusesDefinitions}
use Rattle.cs_pattern.specs.Text.Needed.{ArePlaces}
use Rattle.cs_pattern.specs.Operations.Definitions.{Definition, definition_of, definitions_of}
use Rattle.cs_pattern.specs.Text.Stages.{AreRead, AreOperations, AreMeasures, HasTree}
use Rattle.cs_pattern.proofs.OnText.Staged.{few, have_names}
use Rattle.cs_pattern.proofs.OnText.Trees.{all_trees}
use Rattle.cs_pattern.proofs.OnText.Verdicts.{all_accepted, are_checked}
use Rattle.cs_pattern.proofs.text.compiling.compile_items.Goals as goal
use Rattle.cs_pattern.proofs.text.compiling.compile_items.Goals.{In_ok-measures}

-- ---- what the steps before the limits have shown

abbrev all_of : (c : In_ok-measures) → List Definition
all_of c = definitions_of c.args.texts.now.entries

read : (c : In_ok-measures) → AreRead (all_of c) c.args.items.now
read c = c.requires.read

measured : (c : In_ok-measures) → AreMeasures (all_of c) c.in_ok-measures.measures.items
measured c =
    c.in_ok-measures.ensures (all_of c) (subst (AreOperations (all_of c)) (sym c.deref.ensures.value) c.in_ok-bodies.ensures)
    (subst (IsOrder (all_of c)) (sym c.deref-2.ensures.value) c.in_ok-order.ensures.order)

named : (c : In_ok-measures) → Each (HasAllNames (all_of c)) (all_of c)
named c = have_names (all_of c) c.args.items.now c.requires.read c.requires.named

trees : (c : In_ok-measures) → Each (HasTree (all_of c)) (all_of c)
trees c = all_trees (all_of c) c.args.items.now (read c) (named c) c.in_ok-order.order.items c.in_ok-order.ensures.order c.requires.bytes

-- ---- answers

pub measure_all-requires : goal.measure_all-requires
measure_all-requires c = λ k d lt.
    let ds = definitions_of c.args.texts.now.entries in
    let order : IsOrder ds c.in_ok-order.order.items = c.in_ok-order.ensures.order in
    let operations : AreOperations ds c.in_ok-bodies.bodies.items = c.in_ok-bodies.ensures in
    let P : List ℕ → Type 0 = λ xs. k < length xs → get_or xs k d < length ds in
    let within : get_or c.deref-2.result.now k d < length ds = subst P (sym c.deref-2.ensures.value) (λ less. order.within (get_or c.in_ok-order.order.items k d) (Contains-get_or c.in_ok-order.order.items k d less)) lt in
    let size = operations.count in
    omega (arith, ap length c.deref.ensures.value)

pub check_limits-requires : goal.check_limits-requires
check_limits-requires c =
    let at = (goal.at.check_limits-requires c).In_ok-measures in
    let ms = measured at in
    let size = ms.count in
    let few_texts = few (all_of at) c.args.items.now (read at) in
    let bytes = c.requires.bytes in
    omega (arith, ap length c.deref-3.ensures.value)

pub returns-in_err-check_limits-clause-refused : goal.returns-in_err-check_limits-clause-refused
returns-in_err-check_limits-clause-refused c =
    let at = (goal.at.returns-in_err-check_limits-clause-refused c).In_ok-measures in
    let ds = all_of at in
    let fault = c.in_err-check_limits.field-0.0 in
    let p = err_from_is_err_and c.from_residual-in_err-check_limits.result c.from_residual-in_err-check_limits.ensures.1 in
    let refused : RefusesDefinitions ds fault =
    c.in_err-check_limits.ensures.refused ds (subst (AreMeasures ds) (sym c.deref-3.ensures.value) (measured at)) (trees at) (named at) c.in_ok-order.ensures.no_cycle in
    rw (p.1, p.2) refused

pub returns-clause-checked : goal.returns-clause-checked
returns-clause-checked c =
    let at = (goal.at.returns-clause-checked c).In_ok-measures in
    let ds = all_of at in
    let ms = measured at in
    let within = c.in_ok-check_limits.ensures.within ds (subst (AreMeasures ds) (sym c.deref-3.ensures.value) ms) (trees at) in
    are_checked ds (trees at) within c.in_ok-bodies.bodies.items c.in_ok-measures.measures.items c.in_ok-order.order.items c.in_ok-bodies.ensures ms c.requires.texts c.in_ok-order.ensures.order

pub returns-clause-places : goal.returns-clause-places
returns-clause-places c =
    let operations : AreOperations (definitions_of c.args.texts.now.entries) c.in_ok-bodies.bodies.items = c.in_ok-bodies.ensures in
    let texts : ℕ = length c.args.texts.now.entries in
    let places : ArePlaces texts c.deref-4.result.now c.in_ok-places.places.items = c.in_ok-places.ensures in
    let size : texts ≡ length c.in_ok-bodies.bodies.items = sym (length-map c.args.texts.now.entries definition_of) ∙ sym operations.count in
    subst (λ (xs : List ℕ). ArePlaces (length c.in_ok-bodies.bodies.items) xs c.in_ok-places.places.items) c.deref-4.ensures.value
    (subst (λ n. ArePlaces n c.deref-4.result.now c.in_ok-places.places.items) size places)

pub returns-clause-accepted : goal.returns-clause-accepted
returns-clause-accepted c =
    let at = (goal.at.returns-clause-accepted c).In_ok-measures in
    let ds = all_of at in
    let within = c.in_ok-check_limits.ensures.within ds (subst (AreMeasures ds) (sym c.deref-3.ensures.value) (measured at)) (trees at) in
    all_accepted ds (trees at) within
