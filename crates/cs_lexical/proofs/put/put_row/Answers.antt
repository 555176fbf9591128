-- The line of one entry more of the row, under the number of the other rule.
use Rattle.std.proofs.Common.{◌≡◌, ◌+◌, ◌-◌, ◌<◌, ◌∙◌, [], None, Option, List, ℕ, ap, arith, length}
use Rattle.std.specs.Prelude.{option_map, slice_index_or}
use Rattle.cs_manifest.proofs.OnOutput.Pieces.{nothing, numbered_more, spelled}
use Rattle.cs_lexical.specs.Lines.{overlap_behind, overlap_line}
use Rattle.cs_lexical.proofs.Reading.{own_default}
use Rattle.cs_lexical.proofs.put.put_row.Goals as goal

pub loop-place-init : goal.loop-place-init
loop-place-init g c = nothing _

pub loop-place-preserved : goal.loop-place-preserved
loop-place-preserved g c =
    let place = c.loop-place.place in
    let rule = c.args.rule in
    let row = slice_index_or c.args.lexical.now.rows (rule - 1) [] in
    let x = slice_index_or row place None in
    let number = c.number_of.ensures in
    let other = rule + c.number_of.result in
    let both : option_map (λ text. text.now) c.both.result ≡ x = c.both.ensures ∙ ap (λ (q : ℕ). slice_index_or row q None) (omega (arith, number)) in
    let line = spelled _ (ap (λ (w : Option (List ℕ)). overlap_line rule other w) both ∙ ap (λ (q : ℕ). overlap_line rule (rule + q) x) number) c.put_overlap.ensures in
    let less : place < length row = omega (arith, c.loop-place-test.true, c.behind-place-end.ensures.row) in
    numbered_more (overlap_behind rule) row place x less (own_default row place None less) c.loop-place.invariant line
