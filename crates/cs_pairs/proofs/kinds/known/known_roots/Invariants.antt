use Rattle.cs_pairs.specs.Kinds.Known.{AreKnownIn}
use Rattle.cs_pairs.proofs.kinds.known.known_roots.Given as goal

abbrev pub invariant-loop-place : goal.invariant-loop-place
invariant-loop-place l = AreKnownIn l.kinds l.roots.items
