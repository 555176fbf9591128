-- An entry that is known joins what waits, and an empty one is passed.
use Rattle.std.proofs.Common.{◌+◌, sym, subst}
use Rattle.std.specs.BinaryHeap.{heap_items, IsHeap}
use Rattle.std.specs.declared.collections.BinaryHeap.{BinaryHeap}
use Rattle.std.specs.declared.cmp.Reverse.{Reverse}
use Rattle.std.specs.Global.{Global}
use Rattle.cs_least.specs.declared.ways.candidate.Candidate.{Candidate}
use Rattle.cs_least.specs.Ways.Candidates.{order}
use Rattle.cs_least.specs.Ways.Search.{HoldsUpTo}
use Rattle.cs_least.proofs.OnWays.Kept.{holds_pass, holds_more}
use Rattle.cs_least.proofs.ways.search.heap_of.Goals as goal
use Rattle.cs_least.proofs.ways.search.heap_of.Goals.{in-Some+in_ok-push, in_default}

pub loop-entry-preserved : goal.loop-entry-preserved
loop-entry-preserved c =
    let known = c.args.known.now in
    let i = c.loop-entry.entry-index in
    let so_far = c.loop-entry.invariant in
    let before = heap_items c.loop-entry.heap in
    elim c.match-entry.branch [
      | in-Some+in_ok-push s ↦ record {
        heap = subst (λ (h : BinaryHeap (Reverse Candidate) Global). IsHeap order (heap_items h)) (sym s.heap-is) (s.in_ok-push.ensures.heap_order so_far.heap);
        holds = subst (λ (h : BinaryHeap (Reverse Candidate) Global). HoldsUpTo (i + 1) known (heap_items h)) (sym s.heap-is)
            (holds_more known i s.in-Some.found before (heap_items s.push.new.self) s.in-Some.is s.in_ok-push.ensures.permutation so_far.holds);
      }
      | in_default s ↦ record {
        heap = subst (λ (h : BinaryHeap (Reverse Candidate) Global). IsHeap order (heap_items h)) (sym s.heap-is) so_far.heap;
        holds = subst (λ (h : BinaryHeap (Reverse Candidate) Global). HoldsUpTo (i + 1) known (heap_items h)) (sym s.heap-is) (holds_pass known i before s.in_default.is so_far.holds);
      }
    ]
