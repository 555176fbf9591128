-- Joining the other seat keeps the rule, and so does a look, as the seat stands for some worker.
use Rattle.std.proofs.Common.{sym, ap, ◌∙◌, arith}
use Rattle.cs_fan.specs.Seen.{PlainSeat, PlainCounter}
use Rattle.cs_fan.proofs.Steps.{joins, looks}
use Rattle.cs_fan.proofs.counter.Counter.join.Goals as goal

pub join_seat-requires : goal.join_seat-requires
join_seat-requires c =
    let one = c.self.invariant.one_word in
    let self_table = sym (ap (λ (p : PlainCounter). p.table) c.self.view_is) in
    (ap (λ (p : PlainSeat). p.counter.table) c.seat.view_is ∙ ap (λ (k : PlainCounter). k.table) c.requires.seat ∙ self_table, ap (λ (p : PlainSeat). p.counter.table) c.other.view_is ∙ ap (λ (k : PlainCounter). k.table) c.requires.other ∙ self_table, c.other.invariant.no_slot, omega arith, joins _ _ _ _ _ c.seat.invariant.some_worker c.other.invariant.some_worker)

pub load-requires : goal.load-requires
load-requires c =
    let one = c.self.invariant.one_word in
    let self_table = sym (ap (λ (p : PlainCounter). p.table) c.self.view_is) in
    let j = c.join_seat.ensures in
    let mine = c.seat.invariant.some_worker in
    let workers = ap (λ me. me.0.workers) j.2 in
    (j.0 ∙ ap (λ (p : PlainSeat). p.counter.table) c.seat.view_is ∙ ap (λ (k : PlainCounter). k.table) c.requires.seat ∙ self_table, omega arith, looks _ _ _ _ _ (omega arith))
