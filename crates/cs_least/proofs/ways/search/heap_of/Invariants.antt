use Rattle.std.specs.BinaryHeap.{heap_items, IsHeap}
use Rattle.cs_least.specs.Ways.Candidates.{order}
use Rattle.cs_least.specs.Ways.Search.{HoldsUpTo}
use Rattle.cs_least.proofs.ways.search.heap_of.Given as goal

abbrev pub invariant-loop-entry : goal.invariant-loop-entry
invariant-loop-entry l = record {
  heap : IsHeap order (heap_items l.heap);
  holds : HoldsUpTo l.entry-index l.known (heap_items l.heap);
}
