-- The count of the bases and the five of the edits are put, and the line is written or cut short.
use Rattle.std.proofs.Common.{rules, arith}
use Rattle.std.proofs.lemmas.Grind.{common_steps}
use Rattle.std.proofs.lemmas.Result.{err_from_is_err_and}
use Rattle.cs_manifest.proofs.OnOutput.Lines.{cut_at, lines_cut, lines_written, written_at}
use Rattle.cs_manifest.proofs.OnOutput.Pieces.{then}
use Rattle.cs_deep.proofs.writing.lines.write_end.Goals as goal

pub returns-in_err-end : goal.returns-in_err-end
returns-in_err-end g c =
    let p = err_from_is_err_and c.from_residual.result c.from_residual.ensures.1 in
    let put = then (then (then (then (then (then c.put_count.ensures c.put_count-2.ensures) c.put_count-3.ensures) c.put_count-4.ensures) c.put_count-5.ensures) c.put_count-6.ensures) c.put.ensures in
    rw p.1 (cut_at _ _ _ _ c.new-output.ensures.sink (first_of (search rules, grind (arith, common_steps))) (lines_cut c.new-output.ensures.fine c.new-output.ensures.waiting put c.end.ensures.puts c.in_err-end.ensures.err))

pub returns : goal.returns
returns g c =
    let put = then (then (then (then (then (then c.put_count.ensures c.put_count-2.ensures) c.put_count-3.ensures) c.put_count-4.ensures) c.put_count-5.ensures) c.put_count-6.ensures) c.put.ensures in
    written_at _ _ _ _ c.new-output.ensures.sink (first_of (search rules, grind (arith, common_steps))) (lines_written c.new-output.ensures.fine c.new-output.ensures.waiting put c.end.ensures.puts c.end.ensures.waiting c.in_ok-end.ensures.ok)
