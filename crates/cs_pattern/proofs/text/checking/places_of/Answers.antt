-- Each index stands once in the order, so a later place is set at another index.
use Rattle.std.proofs.Common.{◌∙◌, List, sym, arith}
use Rattle.std.proofs.Math.ListN.{length-set}
use Rattle.std.proofs.lemmas.List.{length-map}
use Rattle.cs_pattern.specs.Operations.Definitions.{Definition, definitions_of, definition_of}
use Rattle.cs_pattern.proofs.OnText.Places.{place_set, stands_within}
use Rattle.cs_pattern.proofs.text.checking.places_of.Goals as goal

pub index_mut-requires : goal.index_mut-requires
index_mut-requires c =
    let ds : List Definition = definitions_of c.args.texts.now.entries in
    let within = stands_within ds c.args.order.now c.loop-place.place c.requires (let t = c.loop-place-test.true in omega arith) in
    let size = c.loop-place.invariant.0 in
    omega (arith, within, size, length-map c.args.texts.now.entries definition_of)

pub loop-place-preserved : goal.loop-place-preserved
loop-place-preserved c =
    let ds : List Definition = definitions_of c.args.texts.now.entries in
    let size = c.loop-place.invariant.0 in (
      length-set c.loop-place.places.items _ c.loop-place.place ∙ size,
      place_set ds c.args.order.now c.loop-place.places.items c.loop-place.place c.requires (size ∙ sym (length-map c.args.texts.now.entries definition_of)) (let t = c.loop-place-test.true in omega arith) c.loop-place.invariant.1,
    )

pub returns : goal.returns
returns c = record {
  count_is = c.loop-place.invariant.0;
  each = λ k lt. c.loop-place.invariant.1 k (let t = c.loop-place-test.false in omega arith);
}
