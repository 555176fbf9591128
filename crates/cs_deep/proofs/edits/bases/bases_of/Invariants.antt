use Rattle.std.proofs.Common.{◌≡◌, length}
use Rattle.cs_deep.proofs.OnEdits.Keeping.{KeptSoFar}
use Rattle.cs_deep.proofs.edits.bases.bases_of.Given as goal

abbrev pub invariant-goals : goal.invariant-goals
invariant-goals l = record {
  tables : l.positives.tables ≡ l.fn.positives.tables;
  so_far : KeptSoFar l.most l.fn.positives l.positives.goals l.number l.bases;
}

abbrev pub decreases-goals : goal.decreases-goals
decreases-goals l = length l.positives.goals
