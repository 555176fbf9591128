-- The words of a base are two numbers with `goal` between them.
use Rattle.std.proofs.lemmas.List.Elements.{All-nil}
use Rattle.std.specs.Prelude.{codes}
use Rattle.cs_lines.proofs.OnLines.Forms.{says_words, base_words}
use Rattle.cs_lines.proofs.OnLines.Parts.{on}
use Rattle.cs_lines.proofs.OnLines.Spelled.{IsByte}
use Rattle.cs_lines.proofs.OnLines.Splits.{behind_free}
use Rattle.cs_lines.specs.Lines.Line.{BaseLine}
use Rattle.cs_lines.specs.Lines.Splits.{words_behind}
use Rattle.cs_lines.specs.Words.Words.{IsWord}
use Rattle.cs_lines.proofs.lines.entries.read_base.Goals as goal

pub returns-in_err-two : goal.returns-in_err-two
returns-in_err-two c =
    rw c.from_residual.ensures (λ l h.
    let p = base_words (words_behind c.args.line.rest.now) l (behind_free c.args.line.rest.now) h in
    c.in_err-two.ensures p.first p.second p.is)

pub returns : goal.returns
returns c =
    let two = c.in_ok-two.ensures in
    let l = BaseLine two.0 two.1 in
    (l, says_words _ l (on (codes "base") two.4) (All-nil IsWord) (All-nil IsByte), (two.2, two.3))
