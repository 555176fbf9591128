use Rattle.std.proofs.Common.{◌+◌}
use Rattle.cs_pairs.specs.Kinds.RimsOf.{AreRimsUpTo}
use Rattle.cs_pairs.proofs.kinds.rims.all_rims.Given as goal

abbrev pub invariant-loop-place : goal.invariant-loop-place
invariant-loop-place l = AreRimsUpTo l.bases l.side (l.place + 1) l.steps
