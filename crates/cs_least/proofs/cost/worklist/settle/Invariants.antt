use Rattle.std.proofs.Common.{◌≤◌, length, drop}
use Rattle.std.specs.BinaryHeap.{heap_items}
use Rattle.cs_least.specs.Cost.Worklist.{IsAt}
use Rattle.cs_least.specs.Cost.Searching.{to_do}
use Rattle.cs_least.proofs.cost.worklist.settle.Given as goal

abbrev pub invariant-loop-place : goal.invariant-loop-place
invariant-loop-place l = record {
  at : IsAt l.rules.weights.now l.rules.grammar.now l.work.table.items l.work.unsettled.items (heap_items l.work.heap) l.size (drop l.place-index l.place-items) (length l.rules.grammar.now.rules);
  falls : to_do l.work ≤ to_do l.fn.work;
}
