use Rattle.std.proofs.Common.{take}
use Rattle.std.specs.BinaryHeap.{heap_items}
use Rattle.cs_least.specs.Ways.Candidates.{IsAfter}
use Rattle.cs_least.specs.Ways.Search.{AreOffered}
use Rattle.cs_least.proofs.ways.search.offer_steps.Given as goal

abbrev pub invariant-loop-step : goal.invariant-loop-step
invariant-loop-step l =
    AreOffered l.limit (IsAfter l.limit l.found (take l.step-index l.steps)) l.step-index
    l.initial.waiting.known.items (heap_items l.initial.waiting.heap) l.waiting.known.items (heap_items l.waiting.heap)
