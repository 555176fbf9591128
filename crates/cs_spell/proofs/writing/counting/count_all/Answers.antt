-- One rule more is counted by its kind; no count is above the number of rules so far.
use Rattle.std.proofs.Common.{◌∙◌, ap, ◌+◌, subst, sym, arith, take}
use Rattle.std.proofs.lemmas.List.{get_or-map, length-map}
use Rattle.cs_spell.specs.Writing.Counting.{added}
use Rattle.cs_spell.specs.Writing.Counts.{AreCounts}
use Rattle.cs_spell.specs.Telling.Seen.{all_told, told_of}
use Rattle.cs_spell.specs.Telling.Told as spec
use Rattle.cs_spell.proofs.OnWriting.Counting.{counted_all, counted_more, counted_none, few_so_far}
use Rattle.cs_spell.proofs.writing.counting.count_all.Goals as goal

pub loop-place-init : goal.loop-place-init
loop-place-init c = rw c.no_counts-counts.ensures (counted_none (all_told c.args.told.now))

pub add-counts-requires : goal.add-counts-requires
add-counts-requires c =
    let told = c.args.told.now in
    few_so_far (all_told told) c.loop-place.place (omega (arith, length-map told told_of)) c.loop-place.counts c.loop-place.invariant (omega (arith, length-map told told_of, c.requires))

pub loop-place-preserved : goal.loop-place-preserved
loop-place-preserved c =
    let told = c.args.told.now in
    let P : spec.Told → Type 0 = λ t. AreCounts (take (c.loop-place.place + 1) (all_told told)) (added c.loop-place.counts t) in
    rw c.add-counts.ensures
    (subst P (get_or-map told_of told c.loop-place.place c.index-told-place.result spec.Shadowed c.loop-place-test.true ∙ ap told_of (sym c.index-told-place.is))
    (counted_more (all_told told) c.loop-place.place (omega (arith, length-map told told_of)) c.loop-place.counts c.loop-place.invariant))

pub returns : goal.returns
returns c = counted_all (all_told c.args.told.now) c.loop-place.place c.loop-place.counts (omega (arith, length-map c.args.told.now told_of)) c.loop-place.invariant
