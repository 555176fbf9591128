-- Behind the word of the row stand a name, `:` and names.
use Rattle.std.proofs.Common.{◌∷◌, refl, sym, subst}
use Rattle.std.proofs.lemmas.List.Elements.{All-nil, All-cons}
use Rattle.std.specs.Prelude.{codes, All}
use Rattle.cs_lines.proofs.OnLines.Forms.{says_words, row_words}
use Rattle.cs_lines.proofs.OnLines.Parts.{same_behind, on, step}
use Rattle.cs_lines.proofs.OnLines.Spelled.{IsByte}
use Rattle.cs_lines.proofs.OnLines.Splits.{behind_free}
use Rattle.cs_lines.specs.Lines.Line.{RowLine}
use Rattle.cs_lines.specs.Lines.Read.{row_kind, names_in}
use Rattle.cs_lines.specs.Lines.Splits.{words_behind}
use Rattle.cs_lines.specs.Lines.Texts.{row_word}
use Rattle.cs_lines.specs.Words.Words.{IsWord}
use Rattle.cs_lines.proofs.lines.head.read_row.Goals as goal

pub returns-in_err-name : goal.returns-in_err-name
returns-in_err-name c =
    rw c.from_residual.ensures (λ l h.
    let p = row_words (row_kind c.args.kind) (words_behind c.args.line.rest.now) l (behind_free c.args.line.rest.now) h in
    c.in_err-name.ensures p.name (codes ":" ∷ p.named) p.is_word p.is)

pub returns-in_err-keyword : goal.returns-in_err-keyword
returns-in_err-keyword c =
    rw c.from_residual-in_err-keyword.ensures (λ l h.
    let p = row_words (row_kind c.args.kind) (words_behind c.args.line.rest.now) l (behind_free c.args.line.rest.now) h in
    let one = c.in_ok-name.ensures in
    let rest1 = same_behind one.1 p.is in
    c.in_err-keyword.ensures p.named rest1)

pub returns-in_err-names : goal.returns-in_err-names
returns-in_err-names c =
    rw c.from_residual-in_err-names.ensures (λ l h.
    let p = row_words (row_kind c.args.kind) (words_behind c.args.line.rest.now) l (behind_free c.args.line.rest.now) h in
    let one = c.in_ok-name.ensures in
    let rest1 = same_behind one.1 p.is in
    let two = c.in_ok-keyword.ensures in
    let rest2 = same_behind two rest1 in
    c.in_err-names.ensures (subst (All IsWord) (sym rest2) p.are_words))

pub returns : goal.returns
returns c =
    let one = c.in_ok-name.ensures in
    let two = c.in_ok-keyword.ensures in
    let three = c.in_ok-names.ensures in
    let kind = row_kind c.args.kind in
    let l = RowLine kind c.in_ok-name.name.now (names_in c.in_ok-names.names) in
    let is = on (codes "closed") (on (row_word kind) (step one.1 (step two (sym three.1)))) in
    (l, says_words _ l is (All-cons IsWord _ _ one.0 three.0) (All-nil IsByte), (refl, refl, refl))
