-- The lines of one row more are put behind those before.
use Rattle.std.proofs.Common.{◌≡◌, ◌-◌, ◌<◌, ◌∙◌, [], ℕ, ap, arith, length}
use Rattle.std.specs.Prelude.{slice_index_or}
use Rattle.cs_manifest.proofs.OnOutput.Pieces.{nothing, numbered_more, spelled}
use Rattle.cs_lexical.specs.Lines.{overlap_lines}
use Rattle.cs_lexical.proofs.Reading.{own_default}
use Rattle.cs_lexical.proofs.put.put_rows.Goals as goal

pub loop-place-init : goal.loop-place-init
loop-place-init g c = nothing _

pub loop-place-preserved : goal.loop-place-preserved
loop-place-preserved g c =
    let place = c.loop-place.place in
    let rows = c.args.lexical.now.rows in
    let x = slice_index_or rows place [] in
    let number = c.number_of.ensures in
    let at : c.number_of.result - 1 ≡ place = omega (arith, number) in
    let row = spelled _ (ap (λ (q : ℕ). overlap_lines c.number_of.result (slice_index_or rows q [])) at ∙ ap (λ (q : ℕ). overlap_lines q x) number) c.put_row.ensures in
    let less : place < length rows = omega (arith, c.loop-place-test.true, c.rules-place-end.ensures.rows) in
    numbered_more overlap_lines rows place x less (own_default rows place [] less) c.loop-place.invariant row
