use Rattle.std.proofs.Common.{take}
use Rattle.cs_deep.specs.Writing.Deep.{edit_lines}
use Rattle.cs_deep.specs.Writing.Tally.{IsCounted}
use Rattle.cs_manifest.specs.Output.Putting.{Puts}
use Rattle.cs_deep.proofs.writing.lines.put_edits.Given as goal

abbrev pub invariant-loop-judged : goal.invariant-loop-judged
invariant-loop-judged g l = record {
  lines : Puts g.S.Sink (edit_lines l.file l.base l.fn.tally.deep (take l.judged-index l.edits)) l.initial.output l.output;
  counted : IsCounted (take l.judged-index l.edits) l.fn.tally l.tally;
}
