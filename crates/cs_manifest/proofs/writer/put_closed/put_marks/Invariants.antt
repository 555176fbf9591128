use Rattle.std.proofs.Common.{take}
use Rattle.cs_manifest.specs.Output.Words.{spaced}
use Rattle.cs_manifest.specs.Output.Names.{mark_text}
use Rattle.cs_manifest.specs.Output.Putting.{Puts}
use Rattle.cs_manifest.proofs.writer.put_closed.put_marks.Given as goal

abbrev pub invariant-loop-mark : goal.invariant-loop-mark
invariant-loop-mark g l = Puts g.S.Sink (spaced (mark_text l.file) (take l.mark-index l.marks)) l.initial.output l.output
