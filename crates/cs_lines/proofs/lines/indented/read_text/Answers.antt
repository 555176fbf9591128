-- Behind `text` the rest is taken whole, spaces and all, and is a quoted text.
use Rattle.std.proofs.Common.{◌≡◌, [], sym, ap, ◌∙◌}
use Rattle.cs_lines.proofs.OnLines.Indented.{text_words, says_text_line}
use Rattle.cs_lines.proofs.OnLines.Splits.{behind_free, joined_split, split_not_none}
use Rattle.cs_lines.specs.Lines.Line.{TextLine}
use Rattle.cs_lines.specs.Lines.Splits.{words_behind}
use Rattle.cs_lines.specs.Lines.Texts.{joined}
use Rattle.cs_lines.proofs.lines.indented.read_text.Goals as goal

pub returns-in_err-behind : goal.returns-in_err-behind
returns-in_err-behind c =
    rw c.from_residual.ensures (λ l h.
    let p = text_words (words_behind c.args.line.rest.now) l (behind_free c.args.line.rest.now) h in
    p.some (c.in_err-behind.ensures))

pub returns-in_err-text : goal.returns-in_err-text
returns-in_err-text c =
    rw c.from_residual-in_err-text.ensures (λ l h.
    let p = text_words (words_behind c.args.line.rest.now) l (behind_free c.args.line.rest.now) h in
    let one = c.in_ok-behind.ensures in
    c.in_err-text.ensures p.text p.are_bytes (sym (joined_split c.in_ok-behind.behind.now) ∙ ap joined (sym one) ∙ p.behind))

pub returns : goal.returns
returns c =
    let one = c.in_ok-behind.ensures in
    let two = c.in_ok-text.ensures in
    let behind = ap joined one ∙ joined_split c.in_ok-behind.behind.now ∙ two.2 in
    let some = λ (none : words_behind c.args.line.rest.now ≡ []). split_not_none c.in_ok-behind.behind.now (sym one ∙ none) in
    (TextLine two.0, says_text_line _ two.0 two.1.are_bytes some behind, two.1)
