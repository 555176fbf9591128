-- A seat that hasn't seen the end may draw once more by the rule.
use Rattle.std.proofs.Common.{sym, ap, ◌∙◌, arith}
use Rattle.cs_fan.specs.Seen.{PlainSeat, PlainCounter}
use Rattle.cs_fan.proofs.Ends.{none_over}
use Rattle.cs_fan.proofs.Steps.{draws}
use Rattle.cs_fan.proofs.counter.Counter.draw.Goals as goal

pub fetch_add-word-requires : goal.fetch_add-word-requires
fetch_add-word-requires c =
    let one = c.self.invariant.one_word in
    let none = none_over _ (ap (λ (p : PlainSeat). p.saw_end) c.seat.view_is ∙ c.requires.before_end) in
    (ap (λ (p : PlainSeat). p.counter.table) c.seat.view_is ∙ ap (λ (k : PlainCounter). k.table) c.requires.of ∙ sym (ap (λ (p : PlainCounter). p.table) c.self.view_is), omega arith, draws _ _ _ _ _ none c.seat.invariant.some_worker)
