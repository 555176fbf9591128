-- Behind `tokens` stand names alone.
use Rattle.std.proofs.Common.{[], refl, sym, subst}
use Rattle.std.proofs.lemmas.List.Elements.{All-nil}
use Rattle.std.specs.Prelude.{codes, All}
use Rattle.cs_lines.proofs.OnLines.Forms.{says_words}
use Rattle.cs_lines.proofs.OnLines.Indented.{tokens_words}
use Rattle.cs_lines.proofs.OnLines.Parts.{on}
use Rattle.cs_lines.proofs.OnLines.Spelled.{IsByte}
use Rattle.cs_lines.proofs.OnLines.Splits.{behind_free}
use Rattle.cs_lines.specs.Lines.Line.{TokensLine}
use Rattle.cs_lines.specs.Lines.Read.{names_in}
use Rattle.cs_lines.specs.Lines.Splits.{words_behind}
use Rattle.cs_lines.specs.Words.Words.{IsWord}
use Rattle.cs_lines.proofs.lines.indented.read_tokens.Goals as goal

pub returns-in_err-names : goal.returns-in_err-names
returns-in_err-names c =
    rw c.from_residual.ensures (λ l h.
    let p = tokens_words (words_behind c.args.line.rest.now) l (behind_free c.args.line.rest.now) h in
    c.in_err-names.ensures (subst (All IsWord) (sym p.is) p.are_words))

pub returns : goal.returns
returns c =
    let one = c.in_ok-names.ensures in
    let l = TokensLine (names_in c.in_ok-names.names) in
    let is = on [] (on [] (on (codes "tokens") (sym one.1))) in
    (l, says_words _ l is one.0 (All-nil IsByte), refl)
