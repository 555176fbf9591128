-- The number that is drawn is an item's, and its answer is put last, as the number is among those drawn.
use Rattle.std.proofs.Common.{ℕ, ◌++◌, ◌∷◌, [], sym, ap, ◌∙◌, subst, arith}
use Rattle.std.proofs.lemmas.List.{map-append}
use Rattle.std.proofs.lemmas.List.Elements.{All-push}
use Rattle.std.proofs.lemmas.Option.{slice_get-get_or}
use lib.ListN.{get_or}
use mathlib.Core.List
use Rattle.cs_fan.specs.Seen.{PlainCounter}
use Rattle.cs_fan.specs.Answers.{number_of, AreAnswers, IsAnswer}
use Rattle.cs_fan.proofs.fans.work_off.Goals as goal

pub loop-i-preserved : goal.loop-i-preserved
loop-i-preserved g c =
    let i = c.loop-i.invariant in
    let d = c.in-Some.ensures in
    let one = c.in_ok-answer.ensures in
    let p = c.in_ok-push.ensures in
    let answers = g.W.Work.answers c.args.all.now.work.now in
    let items = c.args.all.now.items.now in
    let pair : ℕ × g.row.U.Denot = (c.in-Some.i, c.in_ok-answer.answer) in
    let item = get_or items c.in-Some.i c.index-all-i.result in
    let counted = c.requires.count in
    let below = d.below in
    let place = slice_get-get_or items c.in-Some.i c.index-all-i.result (omega arith) in (
      d.of,
      d.workers ∙ i.1,
      d.before_end,
      (let few = d.once.few in let of = ap (λ (k : PlainCounter). k.items) d.of in omega arith),
      ap (λ l. mathlib.Core.List.map number_of l) p.items ∙ map-append number_of c.loop-i.answers.items (pair ∷ []) ∙ ap (λ l. l ++ c.in-Some.i ∷ []) i.4 ∙ sym d.drawn,
      subst (AreAnswers answers items) (sym p.items) (All-push (IsAnswer answers items) c.loop-i.answers.items pair i.5 (item, place, one)),
    )
