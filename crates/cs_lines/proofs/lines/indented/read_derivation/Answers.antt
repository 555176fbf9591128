-- Behind `derive` stand numbers alone.
use Rattle.std.proofs.Common.{[], refl, sym}
use Rattle.std.proofs.lemmas.List.Elements.{All-nil}
use Rattle.std.specs.Prelude.{codes}
use Rattle.cs_lines.proofs.OnLines.Forms.{says_words}
use Rattle.cs_lines.proofs.OnLines.Indented.{derivation_words}
use Rattle.cs_lines.proofs.OnLines.Parts.{on}
use Rattle.cs_lines.proofs.OnLines.Spelled.{IsByte}
use Rattle.cs_lines.proofs.OnLines.Splits.{behind_free}
use Rattle.cs_lines.specs.Lines.Line.{DeriveLine}
use Rattle.cs_lines.specs.Lines.Read.{numbers_in}
use Rattle.cs_lines.specs.Lines.Splits.{words_behind}
use Rattle.cs_lines.specs.Words.Words.{IsWord}
use Rattle.cs_lines.proofs.lines.indented.read_derivation.Goals as goal

pub returns-in_err-numbers : goal.returns-in_err-numbers
returns-in_err-numbers c =
    rw c.from_residual.ensures (λ l h.
    let p = derivation_words (words_behind c.args.line.rest.now) l (behind_free c.args.line.rest.now) h in
    c.in_err-numbers.ensures (p.rules, p.is))

pub returns : goal.returns
returns c =
    let l = DeriveLine (numbers_in c.in_ok-numbers.numbers) in
    let is = on [] (on [] (on (codes "derive") (sym (c.in_ok-numbers.ensures)))) in
    (l, says_words _ l is (All-nil IsWord) (All-nil IsByte), refl)
