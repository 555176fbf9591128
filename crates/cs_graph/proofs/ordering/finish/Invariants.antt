use Rattle.std.proofs.Common.{ℕ}
use Rattle.cs_graph.specs.Marks.{IsMarked}
use Rattle.cs_graph.specs.Walk.{IsWalkOf, work}
use Rattle.cs_graph.proofs.ordering.finish.Given as goal

abbrev pub invariant-loop-last : goal.invariant-loop-last
invariant-loop-last l = record {
  walk : IsWalkOf l.graph l.walk;
  kept : (i : ℕ) → IsMarked l.initial.walk.seen.items i → IsMarked l.walk.seen.items i;
}

abbrev pub decreases-loop-last : goal.decreases-loop-last
decreases-loop-last l = work l.graph l.walk.seen.items l.walk.path.items
