use Rattle.std.proofs.Common.{◌≡◌, take}
use Rattle.cs_manifest.specs.Output.Putting.{Puts}
use Rattle.cs_chain_text.specs.Progress.{IsCounted, lines_from}
use Rattle.cs_chain_text.specs.Rows.Rows.{row_entries}
use Rattle.cs_chain_text.proofs.rows.rows.put_rows.Given as goal

abbrev pub invariant-loop-row : goal.invariant-loop-row
invariant-loop-row g l = record {
  lines : Puts g.S.Sink (lines_from l.cores.file l.fn.tally.goals (take l.row-index (row_entries l.rows))) l.initial.output l.output;
  counted : IsCounted (take l.row-index (row_entries l.rows)) l.fn.tally l.tally;
  number : l.number ≡ l.tally.goals;
}
