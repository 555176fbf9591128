use Rattle.cs_pairs.specs.Kinds.RimsOf.{AreStepsTo}
use Rattle.cs_pairs.proofs.kinds.rims.push_rims.Given as goal

abbrev pub invariant-loop-place : goal.invariant-loop-place
invariant-loop-place l = AreStepsTo l.bases l.side l.number l.place l.steps
