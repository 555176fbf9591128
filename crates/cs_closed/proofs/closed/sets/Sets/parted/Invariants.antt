use Rattle.cs_closed.proofs.OnClosed.Parting.{ArePartedTo}
use Rattle.cs_closed.proofs.closed.sets.Sets.parted.Given as goal

abbrev pub invariant-loop-place : goal.invariant-loop-place
invariant-loop-place l = ArePartedTo l.self l.token l.place l.parted
