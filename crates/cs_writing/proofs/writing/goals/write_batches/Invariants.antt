use Rattle.std.proofs.Common.{◌≡◌, length}
use Rattle.cs_writing.proofs.OnWriting.SoFar.{SoFar}
use Rattle.cs_writing.proofs.writing.goals.write_batches.Given as goal

abbrev pub invariant-batches : goal.invariant-batches
invariant-batches g l = record {
  tables : l.positives.tables ≡ l.fn.positives.tables;
  file : l.manifest.file ≡ l.plan.yacc.now;
  grammar : l.kept.cases.grammar ≡ l.plan.yacc.now.grammar;
  so_far : SoFar g.S.Sink l.plan l.fn.positives.tables l.positives.goals l.kept.number l.kept.cases l.kept.bases l.fn.manifest.counts l.manifest.counts l.fn.sink l.sink;
}

abbrev pub decreases-batches : goal.decreases-batches
decreases-batches g l = length l.positives.goals
