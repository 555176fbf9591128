use Rattle.std.proofs.Common.{take}
use Rattle.cs_manifest.specs.Output.Putting.{Puts}
use Rattle.cs_chain_text.specs.Progress.{IsCounted, lines_from}
use Rattle.cs_chain_text.proofs.entries.lines.put_entries.Given as goal

abbrev pub invariant-loop-told : goal.invariant-loop-told
invariant-loop-told g l = record {
  lines : Puts g.S.Sink (lines_from l.file l.fn.tally.goals (take l.told-index l.entries)) l.initial.output l.output;
  counted : IsCounted (take l.told-index l.entries) l.fn.tally l.tally;
}
