-- One operation more adds the place of what it puts in.
use Rattle.cs_pattern.proofs.OnText.Pending.{used_more}
use Rattle.cs_pattern.proofs.text.needed.add_used.Goals as goal

pub loop-op-preserved : goal.loop-op-preserved
loop-op-preserved c = used_more c.args.places.now _ _ _ c.args.ops.now c.loop-op.op-index c.op-item.result c.loop-op-test.true c.op-item.is c.loop-op.invariant c.in_ok-add_op.ensures
