use Rattle.std.proofs.Common.{◌≤◌, length}
use Rattle.std.specs.Prelude.{Contains}
use Rattle.cs_graph.specs.declared.component.Group.{Group}
use Rattle.cs_graph.specs.Groups.{IsRising}
use Rattle.cs_graph.proofs.component.join.Given as goal

abbrev pub invariant-loop-last : goal.invariant-loop-last
invariant-loop-last l = record {
  kept : (g : Group) → Contains l.initial.groups.items g → g.first ≤ l.place → Contains l.groups.items g;
  old : (g : Group) → Contains l.groups.items g → Contains l.initial.groups.items g;
  rising : IsRising l.groups.items;
  fewer : length l.groups.items ≤ length l.initial.groups.items;
}

abbrev pub decreases-loop-last : goal.decreases-loop-last
decreases-loop-last l = length l.groups.items
