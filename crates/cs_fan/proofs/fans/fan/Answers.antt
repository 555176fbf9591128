-- Each number below the items was drawn once, so the answers in the numbers' order are those of the items.
use Rattle.std.proofs.Common.{length, map, sym, ap, ◌∙◌, subst}
use Rattle.std.proofs.lemmas.Result.{IfOk-weaker}
use Rattle.cs_fan.specs.Numbers.{IsEachOnceBelow}
use Rattle.cs_fan.specs.Seen.{PlainCounter}
use Rattle.cs_fan.specs.Answers.{number_of}
use Rattle.cs_fan.proofs.InOrder.{zip_in_order}
use Rattle.cs_fan.proofs.fans.fan.Goals as goal

pub returns-clause-answers : goal.returns-clause-answers
returns-clause-answers g c =
    let e = c.in_ok-pairs.ensures in
    let count = length c.args.items.now in
    let seat = c.share.new.seat in
    let drawn : IsEachOnceBelow count seat.drawn =
    subst (λ n. IsEachOnceBelow n seat.drawn) (ap (λ (k : PlainCounter). k.items) e.of ∙ c.requires.count) (e.ok.once.whole (e.workers ∙ c.requires.workers ∙ sym (ap (λ (k : PlainCounter). k.workers) e.of)) e.ok.end) in
    let each : IsEachOnceBelow count (map number_of c.in_ok-pairs.pairs.items) = subst (IsEachOnceBelow count) (sym e.ok.numbers) drawn in
    IfOk-weaker c.in_order.result _ _ (λ v h. zip_in_order (g.W.Work.answers c.args.work.now) c.args.items.now c.in_ok-pairs.pairs.items v.items (h count each) e.ok.answers_are) c.in_order.ensures
