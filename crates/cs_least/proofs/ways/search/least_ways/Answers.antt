-- The least that waits is settled, which leaves less to do, and where nothing waits the table is whole.
use Rattle.std.proofs.Common.{◌≡◌, List, [], ◌∷◌, Option, ◌++◌, length, take, drop, replicate, sym, ap, ◌∙◌, subst, arith, rules}
use Rattle.std.specs.BinaryHeap.{heap_items}
use Rattle.std.specs.declared.cmp.Reverse.{Reverse}
use Rattle.std.proofs.lemmas.List.{nil_from_length}
use Rattle.std.proofs.lemmas.List.Sorted.{length_permutation}
use Rattle.cs_least.specs.declared.ways.candidate.Candidate.{Candidate}
use Rattle.cs_least.specs.declared.ways.reach.Reach.{Reach}
use Rattle.cs_least.specs.declared.ways.reach.Reach.TheVariants.{Never}
use Rattle.cs_least.specs.Ways.Ways.{IsNode}
use Rattle.cs_least.specs.Ways.Search.{HoldsUpTo, IsSearch, IsSettling, unsettled_steps}
use Rattle.cs_least.proofs.OnWays.Holding.{rest_popped}
use Rattle.cs_least.proofs.OnWays.Kept.{firsts_offered}
use Rattle.cs_least.proofs.OnWays.Searching.{search_begins, search_ends}
use Rattle.cs_least.proofs.OnWays.Settling.{settling_heap, settling_size, settling_search, written_back}
use Rattle.cs_least.proofs.ways.search.least_ways.Goals as goal

pub loop-found-init : goal.loop-found-init
loop-found-init c =
    let net = c.args.steps.now in
    let sources = c.args.sources.now in
    let limit = c.args.limit in
    let nodes = net.nodes in
    let known = c.in_ok-known.known.items in
    let heap = heap_items c.in_ok-heap.heap in
    let table_is = c.in_ok-table.ensures.items_if_clones_equal (λ y e. search rules) ∙ ap (λ n. replicate n Never) c.nodes.ensures in
    let holds = subst (λ (k : List (Option Candidate)). HoldsUpTo (length k) k heap) c.deref.ensures.value c.in_ok-heap.ensures.1 in
    let offered = firsts_offered limit sources nodes known heap (c.in_ok-known.ensures.0 ∙ c.nodes-2.ensures) c.in_ok-known.ensures.1 c.in_ok-heap.ensures.0 holds in
    let search = search_begins limit net sources (length heap) known heap c.requires.sources offered in
    record {
      search = subst (λ (t : List Reach). IsSearch limit net sources t known heap) (sym table_is) search;
      heap = c.in_ok-heap.ensures.0;
    }

pub settle-requires-clause-node : goal.settle-requires-clause-node
settle-requires-clause-node c =
    let left = rest_popped (heap_items c.loop-found.waiting.heap) c.in-Some.field-0.0 (heap_items c.pop.new.self) c.in-Some.ensures.permutation in
    c.loop-found.invariant.search.nodes c.in-Some.field-0.0 left.taken

-- what the call has settled, from where the loop stands
settling : (c : goal.In_ok-settle) → IsSettling c.args.limit c.args.steps.now c.in-Some.field-0.0 c.loop-found.table.items c.loop-found.waiting.known.items (heap_items c.pop.new.self) c.settle.new.table c.settle.new.waiting.known.items (heap_items c.settle.new.waiting.heap)
settling c =
    let rest = heap_items c.pop.new.self in
    let last = heap_items c.settle.new.waiting.heap in
    subst (λ (t : List Reach). IsSettling c.args.limit c.args.steps.now c.in-Some.field-0.0 t c.loop-found.waiting.known.items rest c.settle.new.table c.settle.new.waiting.known.items last) c.deref_mut.ensures.value c.in_ok-settle.ensures

-- where the search stands then
searched : (c : goal.In_ok-settle) → IsSearch c.args.limit c.args.steps.now c.args.sources.now c.settle.new.table c.settle.new.waiting.known.items (heap_items c.settle.new.waiting.heap)
searched c =
    let found = c.in-Some.field-0.0 in
    let heap = heap_items c.loop-found.waiting.heap in
    let rest = heap_items c.pop.new.self in
    let left = rest_popped heap found rest c.in-Some.ensures.permutation in
    let top = c.in-Some.ensures.below_top c.loop-found.invariant.heap in
    settling_search c.args.limit c.args.steps.now found c.loop-found.table.items c.loop-found.waiting.known.items rest c.settle.new.table c.settle.new.waiting.known.items (heap_items c.settle.new.waiting.heap) (settling c)
    c.args.sources.now heap c.list-list.ensures.net top left c.loop-found.invariant.search

table_back : (c : goal.In_ok-settle) → take c.loop-found.table.len (c.settle.new.table ++ drop (length c.settle.new.table) c.loop-found.table.items) ≡ c.settle.new.table
table_back c =
    let ok = c.loop-found.table.ok in
    written_back c.loop-found.table.len (drop (length c.settle.new.table) c.loop-found.table.items) c.settle.new.table (omega (arith, (searched c).many, c.loop-found.invariant.search.many))

pub loop-found-smaller : goal.loop-found-smaller
loop-found-smaller c =
    let net = c.args.steps.now in
    let found = c.in-Some.field-0.0 in
    let heap = heap_items c.loop-found.waiting.heap in
    let rest = heap_items c.pop.new.self in
    let left = rest_popped heap found rest c.in-Some.ensures.permutation in
    let many = c.loop-found.invariant.search.many in
    let node : IsNode (length c.loop-found.table.items) found.node = subst (λ n. IsNode n found.node) (sym many) (c.loop-found.invariant.search.nodes found left.taken) in
    let size = settling_size c.args.limit net found c.loop-found.table.items c.loop-found.waiting.known.items rest c.settle.new.table c.settle.new.waiting.known.items (heap_items c.settle.new.waiting.heap) (settling c) node in
    omega (arith, size, length_permutation heap (c.in-Some.field-0 ∷ rest) c.in-Some.ensures.permutation, ap (unsettled_steps net.steps) (table_back c))

pub loop-found-preserved : goal.loop-found-preserved
loop-found-preserved c =
    let rest = heap_items c.pop.new.self in
    let known = c.settle.new.waiting.known.items in
    let last = heap_items c.settle.new.waiting.heap in
    record {
      search = subst (λ (t : List Reach). IsSearch c.args.limit c.args.steps.now c.args.sources.now t known last) (sym (table_back c)) (searched c);
      heap = settling_heap c.args.limit c.args.steps.now c.in-Some.field-0.0 c.loop-found.table.items c.loop-found.waiting.known.items rest c.settle.new.table known last (settling c) (c.in-Some.ensures.heap_order c.loop-found.invariant.heap).0;
    }

pub returns : goal.returns
returns c =
    let h = c.loop-found.waiting.heap.data.ok in
    let known = c.loop-found.waiting.known.items in
    let empty : length (heap_items c.loop-found.waiting.heap) ≡ 0 = omega (arith, c.in_default.ensures.none) in
    let none : heap_items c.loop-found.waiting.heap ≡ [] = nil_from_length (heap_items c.loop-found.waiting.heap) empty in
    search_ends c.args.limit c.args.steps.now c.args.sources.now c.loop-found.table.items known (subst (λ (h : List (Reverse Candidate)). IsSearch c.args.limit c.args.steps.now c.args.sources.now c.loop-found.table.items known h) none c.loop-found.invariant.search)
