use Rattle.std.proofs.Common.{◌≡◌, length}
use Rattle.cs_deep.specs.Edits.Candidates.{Takes}
use Rattle.cs_deep.proofs.edits.candidates.next_batch.Given as goal

abbrev pub invariant-loop : goal.invariant-loop
invariant-loop l = record {
  takes : Takes l.fn.candidates l.batch.items l.candidates;
  many : length l.batch.items ≡ l.counter;
}
