-- One rule more is told of, with the kind at its place.
use Rattle.std.proofs.Common.{arith}
use Rattle.std.proofs.lemmas.List.{length_push}
use Rattle.std.proofs.lemmas.Option.{slice_get-get_or}
use Rattle.cs_spell.proofs.OnTelling.Showing.{tell_more}
use Rattle.cs_spell.proofs.telling.telling.tell_all.Goals as goal

pub loop-place-init : goal.loop-place-init
loop-place-init c = rw c.new-told.ensures.items (record { all = omega arith; each = λ k kind t here there. absurd cc })

pub loop-place-preserved : goal.loop-place-preserved
loop-place-preserved c =
    let t = c.args.tools.now in
    let list = c.loop-place.told.items in
    let h = c.loop-place.invariant in
    rw c.in_ok-push.ensures.items (record {
      all = omega (arith, h.all, length_push list c.in_ok-tell.field-0);
      each = tell_more t list c.in_ok-tell.field-0 _ c.loop-place.place c.number_of.result h.all (slice_get-get_or t.work.now.scanner.now.kinds.now c.loop-place.place _ c.loop-place-test.true) c.number_of.ensures c.in_ok-tell.ensures h.each;
    })
