use Rattle.std.proofs.Common.{[]}
use Rattle.std.specs.BinaryHeap.{heap_items}
use Rattle.cs_least.specs.Cost.Worklist.{IsAt}
use Rattle.cs_least.proofs.cost.worklist.offer_first.Given as goal

abbrev pub invariant-loop-place : goal.invariant-loop-place
invariant-loop-place l =
    IsAt l.rules.weights.now l.rules.grammar.now l.work.table.items l.work.unsettled.items (heap_items l.work.heap) 0 [] l.place
