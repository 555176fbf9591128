-- One number more, with a space before it.
use Rattle.std.proofs.Common.{decimal}
use Rattle.cs_manifest.proofs.OnOutput.Pieces.{nothing, spaced_more}
use Rattle.cs_chain_text.proofs.rows.parts.put_numbers.Goals as goal

pub loop-number-init : goal.loop-number-init
loop-number-init g c = nothing _

pub loop-number-preserved : goal.loop-number-preserved
loop-number-preserved g c = spaced_more decimal c.args.numbers.now c.loop-number.number-index _ c.loop-number-test.true c.loop-number.invariant c.put.ensures c.put_number.ensures
