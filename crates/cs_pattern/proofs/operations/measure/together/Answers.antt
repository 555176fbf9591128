-- One part more: the greater depth, and the leaves added.
use Rattle.cs_pattern.proofs.OnOperations.Measuring.{together_more}
use Rattle.cs_pattern.proofs.operations.measure.together.Goals as goal

pub loop-part-preserved : goal.loop-part-preserved
loop-part-preserved c =
    together_more c.args.parts.now c.loop-part.part-index c.max.result c.saturating_add.result c.loop-part.all (record { depth = 0; leaves = 0 }) c.loop-part-test.true c.loop-part.invariant c.max.ensures c.saturating_add.ensures
