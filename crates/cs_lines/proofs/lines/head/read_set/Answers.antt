-- Behind the word of the set stand names alone.
use Rattle.std.proofs.Common.{refl, sym}
use Rattle.std.proofs.lemmas.List.Elements.{All-nil}
use Rattle.std.specs.Prelude.{codes}
use Rattle.cs_lines.proofs.OnLines.Forms.{says_words, set_words}
use Rattle.cs_lines.proofs.OnLines.Parts.{on}
use Rattle.cs_lines.proofs.OnLines.Spelled.{IsByte}
use Rattle.cs_lines.proofs.OnLines.Splits.{behind_free}
use Rattle.cs_lines.specs.Lines.Line.{SetLine}
use Rattle.cs_lines.specs.Lines.Read.{set_kind, names_in}
use Rattle.cs_lines.specs.Lines.Splits.{words_behind}
use Rattle.cs_lines.specs.Lines.Texts.{set_word}
use Rattle.cs_lines.proofs.lines.head.read_set.Goals as goal

pub returns-in_err-names : goal.returns-in_err-names
returns-in_err-names c =
    rw c.from_residual.ensures (λ l h.
    let are_words = set_words (set_kind c.args.kind) (words_behind c.args.line.rest.now) l (behind_free c.args.line.rest.now) h in
    c.in_err-names.ensures are_words)

pub returns : goal.returns
returns c =
    let one = c.in_ok-names.ensures in
    let kind = set_kind c.args.kind in
    let l = SetLine kind (names_in c.in_ok-names.names) in
    let is = on (codes "closed") (on (set_word kind) (sym one.1)) in
    (l, says_words _ l is one.0 (All-nil IsByte), (refl, refl))
