-- Nothing, or the text up to the end of a match.
use Rattle.std.proofs.Common.{◌-◌, ◌∙◌, refl, ap, arith, take, drop}
use Rattle.cs_texts.proofs.OnSplice.Telling.{front_none, front_some}
use Rattle.cs_texts.proofs.splice.marked.Marked.front.Goals as goal

pub returns-then-count-eq0 : goal.returns-then-count-eq0
returns-then-count-eq0 c = front_none c.args.self.now c.args.count c.args.put.now c.up_to.result.now c.if-count-eq0.true c.up_to.ensures

pub returns-then-begins_with_part : goal.returns-then-begins_with_part
returns-then-begins_with_part c =
    let mark = c.mark-end.result in
    let read = c.in_ok-read.read in
    let text = c.as_slice-text.ensures.value in
    front_some c.args.self.now c.args.count read c.args.put.now c.up_to-then-begins_with_part.result.now mark (omega arith) c.mark-end.ensures c.in_ok-read.was
    (c.if-begins_with_part.ensures refl ∙ ap (λ t. take (read - mark.end) (drop mark.end t)) text)
    (c.up_to-then-begins_with_part.ensures ∙ ap (take mark.end) text)
