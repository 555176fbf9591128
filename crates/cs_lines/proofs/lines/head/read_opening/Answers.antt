-- Behind `conform` stand `2` and `suite`, and nothing more.
use Rattle.std.proofs.Common.{[], ◌∷◌, refl}
use Rattle.std.proofs.lemmas.Bool.{false≢true}
use Rattle.std.proofs.lemmas.List.Elements.{All-nil}
use Rattle.std.specs.Prelude.{codes}
use Rattle.cs_lines.proofs.OnLines.Forms.{says_words, opening_words}
use Rattle.cs_lines.proofs.OnLines.Parts.{same_behind, on, step}
use Rattle.cs_lines.proofs.OnLines.Spelled.{IsByte}
use Rattle.cs_lines.proofs.OnLines.Splits.{behind_free}
use Rattle.cs_lines.specs.Lines.Line.{Opening}
use Rattle.cs_lines.specs.Lines.Splits.{words_behind}
use Rattle.cs_lines.specs.Words.Words.{IsWord}
use Rattle.cs_lines.proofs.lines.head.read_opening.Goals as goal

pub returns-in_err-keyword : goal.returns-in_err-keyword
returns-in_err-keyword c =
    rw c.from_residual.ensures (λ l h.
    let p = opening_words (words_behind c.args.line.rest.now) l (behind_free c.args.line.rest.now) h in
    c.in_err-keyword.ensures (codes "suite" ∷ []) p)

pub returns-in_err-keyword-2 : goal.returns-in_err-keyword-2
returns-in_err-keyword-2 c =
    rw c.from_residual-in_err-keyword-2.ensures (λ l h.
    let p = opening_words (words_behind c.args.line.rest.now) l (behind_free c.args.line.rest.now) h in
    let one = c.in_ok-keyword.ensures in
    let rest1 = same_behind one p in
    c.in_err-keyword-2.ensures [] rest1)

pub returns-then-is_done : goal.returns-then-is_done
returns-then-is_done c =
    let one = c.in_ok-keyword.ensures in
    let two = c.in_ok-keyword-2.ensures in
    let is = on (codes "conform") (step one (step two ((c.if-is_done.ensures).0 refl))) in
    (Opening, says_words _ Opening is (All-nil IsWord) (All-nil IsByte), tt)

pub returns-else-is_done : goal.returns-else-is_done
returns-else-is_done c l h =
    let p = opening_words (words_behind c.args.line.rest.now) l (behind_free c.args.line.rest.now) h in
    let one = c.in_ok-keyword.ensures in
    let rest1 = same_behind one p in
    let two = c.in_ok-keyword-2.ensures in
    let rest2 = same_behind two rest1 in
    false≢true ((c.if-is_done.ensures).1 rest2)
