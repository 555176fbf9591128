-- The slip of one more place is put behind those of the places before it.
use Rattle.std.proofs.Common.{arith}
use Rattle.cs_wrong.proofs.OnSlips.Putting.{pushed}
use Rattle.cs_wrong.specs.declared.slips.slip.Change.TheVariants.{Double}
use Rattle.cs_wrong.proofs.slips.slips.put_doubles.Goals as goal

pub loop-place-preserved : goal.loop-place-preserved
loop-place-preserved c =
    pushed Double c.args.side.now.rule c.loop-place.place c.number_of.result c.args.list.now.items c.loop-place.list.items c.push.new.self.items c.loop-place.invariant
    (omega (arith, c.number_of.ensures)) c.in_ok-push.ensures.items
