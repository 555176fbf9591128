-- The rule lets a seat be split that stands for two workers at least and hasn't seen the end.
use Rattle.std.proofs.Common.{sym, ap, ◌∙◌, arith}
use Rattle.cs_fan.specs.Seen.{PlainSeat, PlainCounter}
use Rattle.cs_fan.proofs.Ends.{none_over}
use Rattle.cs_fan.proofs.Steps.{splits}
use Rattle.cs_fan.proofs.counter.Counter.split.Goals as goal

pub split_seat-place-requires : goal.split_seat-place-requires
split_seat-place-requires c =
    let one = c.self.invariant.one_word in
    let workers = ap (λ (p : PlainSeat). p.workers) c.seat.view_is in
    let two = c.requires.two in
    let none = none_over _ (ap (λ (p : PlainSeat). p.saw_end) c.seat.view_is ∙ c.requires.fresh.1) in
    (ap (λ (p : PlainSeat). p.counter.table) c.seat.view_is ∙ ap (λ (k : PlainCounter). k.table) c.requires.of ∙ sym (ap (λ (p : PlainCounter). p.table) c.self.view_is), omega arith, splits _ _ _ none (omega arith))
