-- The rows of a batch are the entries of its chains, as many as there are chains.
use Rattle.std.proofs.Common.{ℕ, subst, sym}
use Rattle.std.proofs.lemmas.Result.{err_from_is_err_and}
use Rattle.cs_io.specs.Lines.{IsCutShort, IsWritten}
use Rattle.cs_chain_text.specs.Progress.{CanCount, lines_of}
use Rattle.cs_chain_text.specs.Rows.Rows.{IsRowOf, Told, row_entries}
use Rattle.cs_chain_text.proofs.OnWriting.Batches.{rows_entries}
use Rattle.cs_chain_text.proofs.OnRows.Rows.{rows_fit}
use Rattle.cs_manifest.proofs.OnManifest.Zips.{length_zip}
use Rattle.cs_chain_text.proofs.writing.writing.write_kept.Goals as goal

pub write_rows-requires-clause-rows : goal.write_rows-requires-clause-rows
write_rows-requires-clause-rows g c = rows_fit c.args.cores.now c.args.batch.now c.args.rows.now c.requires.rows

pub write_rows-requires-clause-few : goal.write_rows-requires-clause-few
write_rows-requires-clause-few g c =
    subst (λ (n : ℕ). CanCount c.args.tally.now n) (sym (length_zip (IsRowOf c.args.cores.now) c.args.batch.now c.args.rows.now c.requires.rows)) c.requires.count

pub returns-in_err-write_rows-clause-put : goal.returns-in_err-write_rows-clause-put
returns-in_err-write_rows-clause-put g c =
    let p = err_from_is_err_and c.from_residual.result c.from_residual.ensures.1 in
    let rows = c.args.rows.now in
    let cut = subst (λ (t : Told). IsCutShort g.S.Sink (lines_of t.file c.args.tally.now (row_entries rows)) c.args.sink.now c.write_rows.new.sink) c.requires.cores c.in_err-write_rows.ensures.text in
    rw (p.1, p.2) (record {
      entries = row_entries rows;
      are = rows_entries c.args.chained.now c.args.batch.now rows c.args.cores.now c.requires.cores c.requires.none c.requires.chains c.requires.rows;
      cut = cut;
    })

pub returns-clause-put : goal.returns-clause-put
returns-clause-put g c =
    let rows = c.args.rows.now in
    record {
      entries = row_entries rows;
      are = rows_entries c.args.chained.now c.args.batch.now rows c.args.cores.now c.requires.cores c.requires.none c.requires.chains c.requires.rows;
      written = subst (λ (t : Told). IsWritten g.S.Sink (lines_of t.file c.args.tally.now (row_entries rows)) c.args.sink.now c.write_rows.new.sink) c.requires.cores c.in_ok-write_rows.ensures.text;
      counted = c.in_ok-write_rows.ensures.counted;
    }
