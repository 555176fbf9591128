use Rattle.std.proofs.Common.{◌≡◌, length}
use Rattle.cs_wrong.specs.Classes.Coming.{CanTake, Takes}
use Rattle.cs_wrong.proofs.classes.coming.next_batch.Given as goal

abbrev pub invariant-loop : goal.invariant-loop
invariant-loop l = record {
  takes : Takes l.pairs l.fn.coming l.batch.items l.coming;
  can : CanTake l.pairs l.coming;
  many : length l.batch.items ≡ l.counter;
}
