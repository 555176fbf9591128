-- One step more: what is found goes on by it and is offered.
use Rattle.std.proofs.Common.{get_or, arith, sym, subst}
use Rattle.std.specs.BinaryHeap.{heap_items}
use Rattle.std.proofs.lemmas.List.{take_more}
use Rattle.cs_least.specs.declared.ways.step.Step.{Step}
use Rattle.cs_least.specs.declared.ways.candidate.Candidate.{Candidate}
use Rattle.cs_least.specs.Ways.Ways.{IsNode}
use Rattle.cs_least.specs.Ways.Search.{IsOffered}
use Rattle.cs_least.proofs.OnWays.Beginnings.{afters_more, afters_all}
use Rattle.cs_least.proofs.ways.search.offer_steps.Goals as goal

pub loop-step-preserved : goal.loop-step-preserved
loop-step-preserved c =
    let steps = c.args.steps.now in
    let i = c.loop-step.step-index in
    let none : Step = record { from = 0; to = 0; cost = 0 } in
    let s = get_or steps i none in
    let node = subst (λ n. IsNode n s.to) (sym c.loop-step.invariant.size) (c.requires.nodes i none c.loop-step-test.true) in
    let offered = subst (λ (d : Candidate). IsOffered d c.loop-step.waiting.known.items (heap_items c.loop-step.waiting.heap) c.offer.new.waiting.known.items (heap_items c.offer.new.waiting.heap)) c.after.ensures c.in_ok-offer.ensures in
    afters_more c.args.limit c.args.found steps i s _ _ _ _ _ _ (take_more steps i none c.loop-step-test.true) node offered c.loop-step.invariant

pub returns : goal.returns
returns c = afters_all c.args.limit c.args.found c.args.steps.now c.loop-step.step-index _ _ _ _ (omega arith) c.loop-step.invariant
