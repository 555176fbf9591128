use Rattle.std.proofs.Common.{length}
use Rattle.cs_wrong.proofs.OnWriting.Batches.{SlipsSoFar}
use Rattle.cs_wrong.specs.Classes.Coming.{CanTake}
use Rattle.cs_wrong.specs.Writing.Progress.{weighed_in}
use Rattle.cs_wrong.proofs.writing.writing.write_slips.Given as goal

abbrev pub invariant-batches : goal.invariant-batches
invariant-batches g l = record {
  far : SlipsSoFar g.S.Sink l.asked l.fn.sink l.coming.earlier l.coming.left l.sink l.tally;
  can : CanTake (weighed_in l.asked) l.coming;
}

abbrev pub decreases-batches : goal.decreases-batches
decreases-batches g l = length l.coming.left
