use Rattle.cs_closed.proofs.OnClosed.Members.{AreJoinedTo}
use Rattle.cs_closed.proofs.closed.keeping.add.Given as goal

abbrev pub invariant-loop-place : goal.invariant-loop-place
invariant-loop-place l = AreJoinedTo l.fn.set l.other l.place l.set
