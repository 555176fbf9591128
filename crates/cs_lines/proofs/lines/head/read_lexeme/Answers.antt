-- Behind the name the rest is taken whole, spaces and all, and is `none` or a quoted text.
use Rattle.std.proofs.Common.{◌≡◌, [], refl, sym, ap, ◌∙◌}
use Rattle.cs_lines.proofs.OnLines.Forms.{lexeme_words, says_lexeme}
use Rattle.cs_lines.proofs.OnLines.Parts.{same_behind}
use Rattle.cs_lines.proofs.OnLines.Splits.{behind_free, joined_split, split_not_none}
use Rattle.cs_lines.specs.Lines.Line.{LexemeLine}
use Rattle.cs_lines.specs.Lines.Splits.{words_behind}
use Rattle.cs_lines.specs.Lines.Texts.{joined}
use Rattle.cs_lines.proofs.lines.head.read_lexeme.Goals as goal

pub returns-in_err-name : goal.returns-in_err-name
returns-in_err-name c =
    rw c.from_residual.ensures (λ l h.
    let p = lexeme_words (words_behind c.args.line.rest.now) l (behind_free c.args.line.rest.now) h in
    c.in_err-name.ensures p.name p.others p.is_word p.is)

pub returns-in_err-behind : goal.returns-in_err-behind
returns-in_err-behind c =
    rw c.from_residual-in_err-behind.ensures (λ l h.
    let p = lexeme_words (words_behind c.args.line.rest.now) l (behind_free c.args.line.rest.now) h in
    let one = c.in_ok-name.ensures in
    let rest1 = same_behind one.1 p.is in
    p.some (sym rest1 ∙ c.in_err-behind.ensures))

pub returns-in_err-text : goal.returns-in_err-text
returns-in_err-text c =
    rw c.from_residual-in_err-text.ensures (λ l h.
    let p = lexeme_words (words_behind c.args.line.rest.now) l (behind_free c.args.line.rest.now) h in
    let one = c.in_ok-name.ensures in
    let rest1 = same_behind one.1 p.is in
    let two = c.in_ok-behind.ensures in
    c.in_err-text.ensures p.text p.are_bytes (sym (joined_split c.in_ok-behind.behind.now) ∙ ap joined (sym two ∙ rest1) ∙ p.behind))

pub returns : goal.returns
returns c =
    let one = c.in_ok-name.ensures in
    let two = c.in_ok-behind.ensures in
    let three = c.in_ok-text.ensures in
    let behind = ap joined two ∙ joined_split c.in_ok-behind.behind.now ∙ three.3 in
    let some = λ (none : words_behind c.name.new.self.rest.now ≡ []). split_not_none c.in_ok-behind.behind.now (sym two ∙ none) in
    (LexemeLine c.in_ok-name.name.now three.0, says_lexeme _ _ _ three.0 one.0 three.1 one.1 some behind, (refl, three.2))
