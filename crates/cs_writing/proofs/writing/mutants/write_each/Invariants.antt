use Rattle.std.proofs.Common.{◌≡◌}
use Rattle.cs_writing.proofs.OnWriting.Mutated.{BasesSoFar}
use Rattle.cs_writing.proofs.writing.mutants.write_each.Given as goal

abbrev pub invariant-loop-index : goal.invariant-loop-index
invariant-loop-index g l = record {
  file : l.manifest.file ≡ l.fn.manifest.file;
  number : l.number ≡ l.manifest.counts.negatives;
  first : l.keeper.first ≡ l.mutation.first;
  tokens : l.keeper.tokens ≡ l.mutation.pairs.now.grammar.tokens;
  so_far : BasesSoFar g.S.Sink l.plan l.bases.list l.index l.keeper l.fn.sink l.sink l.fn.manifest.counts l.manifest.counts;
}
