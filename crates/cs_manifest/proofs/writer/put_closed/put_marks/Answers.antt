-- One mark more, behind a space.
use Rattle.cs_manifest.specs.Output.Names.{mark_text}
use Rattle.cs_manifest.proofs.OnOutput.Pieces.{nothing, spaced_next}
use Rattle.cs_manifest.proofs.writer.put_closed.put_marks.Goals as goal

pub loop-mark-init : goal.loop-mark-init
loop-mark-init g c = nothing _

pub loop-mark-preserved : goal.loop-mark-preserved
loop-mark-preserved g c = spaced_next (mark_text c.args.file.now) c.args.marks.now c.loop-mark.mark-index _ c.loop-mark-test.true c.loop-mark.invariant c.put_spaced_mark.ensures
