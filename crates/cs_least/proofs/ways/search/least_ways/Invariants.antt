use Rattle.std.proofs.Common.{◌+◌, length}
use Rattle.std.specs.BinaryHeap.{heap_items, IsHeap}
use Rattle.cs_least.specs.Ways.Candidates.{order}
use Rattle.cs_least.specs.Ways.Search.{IsSearch, unsettled_steps}
use Rattle.cs_least.proofs.ways.search.least_ways.Given as goal

abbrev pub invariant-loop-found : goal.invariant-loop-found
invariant-loop-found l = record {
  search : IsSearch l.limit l.steps l.sources l.table.items l.waiting.known.items (heap_items l.waiting.heap);
  heap : IsHeap order (heap_items l.waiting.heap);
}

abbrev pub decreases-loop-found : goal.decreases-loop-found
decreases-loop-found l = unsettled_steps l.steps.steps l.table.items + length (heap_items l.waiting.heap)
