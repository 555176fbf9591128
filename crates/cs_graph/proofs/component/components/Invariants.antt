use Rattle.std.proofs.Common.{◌≡◌, ◌<◌, ℕ, []}
use Rattle.cs_graph.specs.Groups.{IsSearchOf, IsNew}
use Rattle.cs_graph.proofs.component.components.Given as goal

abbrev pub invariant-loop-node : goal.invariant-loop-node
invariant-loop-node l = record {
  search : IsSearchOf l.graph l.search;
  none : l.search.groups.items ≡ [];
  seen : (i : ℕ) → i < l.node → IsNew l.search.states.items i → ⊥;
}
