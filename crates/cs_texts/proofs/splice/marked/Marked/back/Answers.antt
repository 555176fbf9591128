-- None, or those from a match on.
use Rattle.std.proofs.Common.{◌∙◌, ap, arith, length, drop}
use Rattle.std.proofs.lemmas.List.{drop_all}
use Rattle.cs_texts.proofs.OnSplice.Telling.{back_none, back_some}
use Rattle.cs_texts.proofs.splice.marked.Marked.back.Goals as goal

pub returns-then-count-eq0 : goal.returns-then-count-eq0
returns-then-count-eq0 c =
    let text = c.as_slice-text.result.now in
    back_none c.args.self.now c.args.count c.from_place.result.now c.if-count-eq0.true (c.from_place.ensures ∙ drop_all (length text) text (omega arith))

pub returns-else-count-eq0 : goal.returns-else-count-eq0
returns-else-count-eq0 c =
    back_some c.args.self.now c.args.count c.from_place-else-count-eq0.result.now c.mark.result c.requires.marked c.mark.ensures
    (c.from_place-else-count-eq0.ensures ∙ ap (drop c.mark.result.start) c.as_slice-text.ensures.value)
