-- One step more is put behind those that leave the same node.
use Rattle.std.proofs.Common.{get_or, refl, arith}
use Rattle.std.proofs.lemmas.List.{take_more}
use Rattle.std.proofs.lemmas.Option.{slice_get_read}
use Rattle.cs_least.specs.declared.ways.step.Step.{Step}
use Rattle.cs_least.proofs.OnWays.RowsPut.{rows_more}
use Rattle.cs_least.proofs.ways.steps.rows_of.Goals as goal

pub loop-step-preserved : goal.loop-step-preserved
loop-step-preserved c =
    let list = c.args.list.now in
    let i = c.loop-step.step-index in
    let none : Step = record { from = 0; to = 0; cost = 0 } in
    rw (take_more list i none (omega arith), c.place_of.ensures)
    (rows_more c.args.nodes _ c.loop-step.rows.items (get_or list i none) c.index_mut.result.now c.push.new.self (c.requires i none (omega arith)).0 (slice_get_read c.loop-step.rows.items _ _ c.index_mut.result.now refl (omega arith) (rw c.place_of.ensures at c.index_mut.ensures.value)) c.in_ok-push.ensures.items c.loop-step.invariant)
