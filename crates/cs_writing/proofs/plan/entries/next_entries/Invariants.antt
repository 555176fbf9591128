use Rattle.std.specs.Vec.Iter.{into_iter_items}
use Rattle.cs_writing.proofs.OnPlan.Joining.{AreJoining}
use Rattle.cs_writing.proofs.plan.entries.next_entries.Given as goal

abbrev pub invariant-loop-placed : goal.invariant-loop-placed
invariant-loop-placed g l =
    AreJoining l.plan l.fn.positives.tables l.fn.cases l.cases (into_iter_items l.initial.placed-iterator) (into_iter_items l.placed-iterator) (into_iter_items l.rendered) l.entries.items
