use Rattle.std.proofs.Common.{drop}
use Rattle.cs_pairs.specs.Kinds.Beside.{IsPlacedFrom}
use Rattle.cs_pairs.proofs.kinds.roots.placed_among.Given as goal

abbrev pub invariant-loop-index : goal.invariant-loop-index
invariant-loop-index l = IsPlacedFrom l.kinds l.rows.kind l.index (drop l.index l.symbols) l.placed
