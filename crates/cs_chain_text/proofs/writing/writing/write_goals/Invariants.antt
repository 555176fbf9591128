use Rattle.std.proofs.Common.{◌≡◌, length}
use Rattle.cs_chain_text.specs.Progress.{told_in}
use Rattle.cs_chain_text.proofs.OnWriting.Batches.{GoalsSoFar}
use Rattle.cs_chain_text.proofs.writing.writing.write_goals.Given as goal

abbrev pub invariant-batches : goal.invariant-batches
invariant-batches g l = record {
  far : GoalsSoFar g.S.Sink l.telling.chained l.fn.sink l.chains l.sink l.tally;
  cores : l.cores ≡ told_in l.telling.chained;
}

abbrev pub decreases-batches : goal.decreases-batches
decreases-batches g l = length l.chains
