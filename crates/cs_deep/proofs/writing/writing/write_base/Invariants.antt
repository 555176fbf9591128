use Rattle.std.proofs.Common.{◌≡◌, length}
use Rattle.cs_deep.proofs.OnWriting.Edited.{EditsSoFar}
use Rattle.cs_deep.proofs.writing.writing.write_base.Given as goal

abbrev pub invariant-batches : goal.invariant-batches
invariant-batches g l = record {
  grammar : l.candidates.grammar ≡ l.deep.yacc.now.grammar;
  base : l.candidates.base ≡ l.base.tokens.now;
  so_far : EditsSoFar g.S.Sink l.deep l.base.number l.base.tokens.now l.fn.tally l.fn.sink l.candidates.edits l.sink l.tally;
}

abbrev pub decreases-batches : goal.decreases-batches
decreases-batches g l = length l.candidates.edits
