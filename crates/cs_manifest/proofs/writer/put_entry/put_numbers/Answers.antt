-- One number more, behind a space.
use Rattle.std.proofs.Common.{decimal}
use Rattle.cs_manifest.proofs.OnOutput.Pieces.{nothing, spaced_next}
use Rattle.cs_manifest.proofs.writer.put_entry.put_numbers.Goals as goal

pub loop-number-init : goal.loop-number-init
loop-number-init g c = nothing _

pub loop-number-preserved : goal.loop-number-preserved
loop-number-preserved g c = spaced_next decimal c.args.numbers.now c.loop-number.number-index _ c.loop-number-test.true c.loop-number.invariant c.put_spaced_number.ensures
