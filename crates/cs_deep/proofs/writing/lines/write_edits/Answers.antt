-- What was put of the edits is written, or cut short where the output fails.
use Rattle.std.proofs.Common.{rules, arith}
use Rattle.std.proofs.lemmas.Grind.{common_steps}
use Rattle.std.proofs.lemmas.Result.{err_from_is_err_and}
use Rattle.cs_manifest.proofs.OnOutput.Lines.{cut_at, lines_cut, lines_written, written_at}
use Rattle.cs_deep.proofs.writing.lines.write_edits.Goals as goal

pub returns-in_err-end-clause-lines : goal.returns-in_err-end-clause-lines
returns-in_err-end-clause-lines g c =
    let p = err_from_is_err_and c.from_residual.result c.from_residual.ensures.1 in
    let put = c.put_edits.ensures.lines in
    rw p.1 (cut_at _ _ _ _ c.new-output.ensures.sink (first_of (search rules, grind (arith, common_steps))) (lines_cut c.new-output.ensures.fine c.new-output.ensures.waiting put c.end.ensures.puts c.in_err-end.ensures.err))

pub returns-clause-lines : goal.returns-clause-lines
returns-clause-lines g c =
    let put = c.put_edits.ensures.lines in
    written_at _ _ _ _ c.new-output.ensures.sink (first_of (search rules, grind (arith, common_steps))) (lines_written c.new-output.ensures.fine c.new-output.ensures.waiting put c.end.ensures.puts c.end.ensures.waiting c.in_ok-end.ensures.ok)
