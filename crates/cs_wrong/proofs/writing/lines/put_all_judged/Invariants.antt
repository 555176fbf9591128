use Rattle.std.proofs.Common.{take}
use Rattle.cs_manifest.specs.Output.Putting.{Puts}
use Rattle.cs_wrong.specs.Writing.Entries.{lines_from}
use Rattle.cs_wrong.specs.Writing.Tally.{IsCounted}
use Rattle.cs_wrong.proofs.writing.lines.put_all_judged.Given as goal

abbrev pub invariant-loop-judged : goal.invariant-loop-judged
invariant-loop-judged g l = record {
  lines : Puts g.S.Sink (lines_from l.file l.fn.tally.wrong (take l.judged-index l.entries)) l.initial.output l.output;
  counted : IsCounted (take l.judged-index l.entries) l.fn.tally l.tally;
}
