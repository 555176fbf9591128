use Rattle.std.proofs.Common.{◌≡◌, ◌<◌, ℕ, []}
use Rattle.cs_graph.specs.Marks.{IsMarked}
use Rattle.cs_graph.specs.Walk.{IsWalkOf}
use Rattle.cs_graph.proofs.ordering.order.Given as goal

abbrev pub invariant-loop-node : goal.invariant-loop-node
invariant-loop-node l = record {
  walk : IsWalkOf l.graph l.walk;
  none : l.walk.path.items ≡ [];
  seen : (i : ℕ) → i < l.node → IsMarked l.walk.seen.items i;
}
