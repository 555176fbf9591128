use Rattle.std.proofs.Common.{◌≡◌, ◌+◌, ◌≤◌, List, length}
use Rattle.cs_mutate.specs.Keeping.{Tells}
use Rattle.cs_mutate.specs.declared.negative.Negative.{Negative}
use Rattle.cs_writing.proofs.OnWriting.Negatives.{NegativesSoFar}
use Rattle.cs_writing.proofs.writing.mutants.write_found.Given as goal

abbrev pub invariant-negatives : goal.invariant-negatives
invariant-negatives g l = record {
  file : l.manifest.file ≡ l.fn.manifest.file;
  making : l.made.making ≡ l.fn.made.making;
  number : l.number ≡ l.manifest.counts.negatives;
  first : l.keeper.first ≡ l.fn.keeper.first;
  tokens : l.keeper.tokens ≡ l.fn.keeper.tokens;
  grammar : l.search.grammar ≡ l.fn.search.grammar;
  base : l.search.base ≡ l.fn.search.base;
  few : l.manifest.counts.negatives + length l.search.edits ≤ l.fn.manifest.counts.negatives + length l.fn.search.edits;
  lent : g.S.Sink.lent l.sink ≡ g.S.Sink.lent l.fn.sink;
  so_far : (before : List Negative) → Tells l.fn.keeper before
      → NegativesSoFar g.S.Sink l.fn.manifest.file l.fn.made.making.number l.fn.made.making.tools.work l.fn.keeper.first before l.fn.search l.search l.keeper l.fn.sink l.sink l.fn.manifest.counts l.manifest.counts;
}

abbrev pub decreases-negatives : goal.decreases-negatives
decreases-negatives g l = length l.search.edits
