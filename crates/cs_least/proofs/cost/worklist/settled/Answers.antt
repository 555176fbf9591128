-- At the start nothing is settled and no candidate waits, and each rule counts all its nonterminals as open.
use Rattle.std.proofs.Common.{List, [], sym, ap, ◌∙◌, subst, replicate}
use Rattle.std.specs.BinaryHeap.{heap_items}
use Rattle.cs_least.specs.declared.cost.cost.Cost.{Cost}
use Rattle.cs_least.specs.declared.cost.cost.Cost.TheVariants.{Never}
use Rattle.cs_least.specs.Cost.Worklist.{IsAt}
use Rattle.cs_least.proofs.OnCost.Settling.{at_start, open_in-replicate}
use Rattle.cs_least.proofs.cost.worklist.settled.Goals as goal

pub offer_first-requires-clause-start : goal.offer_first-requires-clause-start
offer_first-requires-clause-start c =
    let w = c.args.weights.now in
    let g = c.args.grammar.now in
    let counts = c.in_ok-counts_of.ensures in
    let items = c.in_ok-vec.ensures.items_if_clones_equal (λ y e. e) in
    let all = items ∙ ap (λ n. replicate n Never) c.nonterminals.ensures in
    subst (λ (t : List Cost). IsAt w g t c.in_ok-counts_of.field-0.items (heap_items c.new.result) 0 [] 0) (sym all)
    (at_start w g _ _ counts.many (λ k p at. counts.each k p at ∙ sym (open_in-replicate g.nonterminals p.right)) c.new.ensures.items c.new.ensures.heap_order)
