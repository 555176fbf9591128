-- Nothing waited before the end line, so it is what the sink took, or where a write failed a prefix of it, by the same counts.
use Rattle.std.proofs.Common.{rules, ap, arith, subst}
use Rattle.std.proofs.lemmas.Grind.{common_steps}
use Rattle.std.proofs.lemmas.Result.{err_from_is_err_and}
use Rattle.cs_manifest.proofs.OnOutput.Lines.{cut_at, lines_cut, lines_written, written_at}
use Rattle.cs_manifest.specs.Manifest.Counts.{end_of}
use Rattle.cs_manifest.specs.Output.Putting.{Puts}
use Rattle.cs_manifest.specs.Writer.Progress.{Progress}
use Rattle.cs_manifest.specs.declared.manifest.counts.Counts.{Counts}
use Rattle.cs_manifest.proofs.writer.manifest.Manifest.finish.Goals as goal

pub returns-in_err-bytes-clause-lines : goal.returns-in_err-bytes-clause-lines
returns-in_err-bytes-clause-lines g c =
    let p = err_from_is_err_and c.from_residual.result c.from_residual.ensures.1 in
    let put = subst (λ (k : Counts). Puts g.S.Sink (end_of k) c.new-output.result c.put_end.new.output) (ap (λ (p : Progress). p.counts) c.self.view_is) c.put_end.ensures in
    let cut = lines_cut c.new-output.ensures.fine c.new-output.ensures.waiting put c.end.ensures.puts c.in_err-bytes.ensures.err in
    rw p.1 (cut_at _ _ _ _ c.new-output.ensures.sink (first_of (search rules, grind (arith, common_steps))) cut)

pub returns-clause-lines : goal.returns-clause-lines
returns-clause-lines g c =
    let put = subst (λ (k : Counts). Puts g.S.Sink (end_of k) c.new-output.result c.put_end.new.output) (ap (λ (p : Progress). p.counts) c.self.view_is) c.put_end.ensures in
    let written = lines_written c.new-output.ensures.fine c.new-output.ensures.waiting put c.end.ensures.puts c.end.ensures.waiting c.in_ok-bytes.ensures.ok in
    written_at _ _ _ _ c.new-output.ensures.sink (first_of (search rules, grind (arith, common_steps))) written
