use Rattle.std.proofs.Common.{◌*◌, ◌≤◌, drop}
use Rattle.cs_deep.proofs.OnWriting.Basing.{BasesSoFar}
use Rattle.cs_deep.specs.Writing.Lines.{IsWithin}
use Rattle.cs_deep.proofs.writing.writing.write_bases.Given as goal

abbrev pub invariant-loop-index : goal.invariant-loop-index
invariant-loop-index g l = record {
  within : IsWithin l.tally;
  few : l.tally.edits ≤ 1100000000 * l.index;
  so_far : BasesSoFar g.S.Sink l.deep l.bases.list l.fn.sink (drop l.index l.bases.list) l.sink l.tally;
}
