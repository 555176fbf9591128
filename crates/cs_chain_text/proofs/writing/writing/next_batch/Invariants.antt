use Rattle.std.proofs.Common.{◌≡◌, ◌+◌, ◌++◌, length}
use Rattle.cs_chain_text.proofs.writing.writing.next_batch.Given as goal

abbrev pub invariant-loop : goal.invariant-loop
invariant-loop l = record {
  split : l.fn.chains ≡ l.batch.items ++ l.chains;
  many : length l.batch.items ≡ l.counter + 1;
}
