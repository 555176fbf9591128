-- Each mark is one of a match.
use Rattle.std.proofs.Common.{◌≡◌, ◌<◌, Some, sym, subst, arith, length}
use Rattle.std.specs.Prelude.{slice_get}
use Rattle.std.proofs.lemmas.Option.{slice_get-get_or}
use Rattle.cs_texts.specs.declared.splice.marks.TextMark.{TextMark}
use Rattle.cs_texts.proofs.splice.marked.Marked.mark.Goals as goal

pub returns : goal.returns
returns c =
    let marked = c.requires.marked in
    let marks = c.args.self.now.marks.items in
    let place = c.args.place in
    let mark : TextMark = c.index.result.now in
    let within : place < length marks = omega (arith, marked.marks.all, c.requires.place) in
    let here : slice_get marks place ≡ Some mark = subst (λ m. slice_get marks place ≡ Some m) (sym c.index.ensures) (slice_get-get_or marks place mark within) in
    record { is_mark = marked.marks.each place mark here; aligned = marked.aligned place mark c.requires.place here }
