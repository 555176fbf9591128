-- Behind `scan` stands one number, and nothing more.
use Rattle.std.proofs.Common.{[], refl}
use Rattle.std.proofs.lemmas.Bool.{false≢true}
use Rattle.std.proofs.lemmas.List.Elements.{All-nil}
use Rattle.std.specs.Prelude.{codes}
use Rattle.cs_lines.proofs.OnLines.Forms.{says_words}
use Rattle.cs_lines.proofs.OnLines.Indented.{no_scan_words}
use Rattle.cs_lines.proofs.OnLines.Parts.{same_behind, on, step}
use Rattle.cs_lines.proofs.OnLines.Spelled.{IsByte}
use Rattle.cs_lines.proofs.OnLines.Splits.{behind_free}
use Rattle.cs_lines.specs.Lines.Line.{NoScanLine}
use Rattle.cs_lines.specs.Lines.Splits.{words_behind}
use Rattle.cs_lines.specs.Words.Words.{IsWord}
use Rattle.cs_lines.proofs.lines.indented.read_no_scan.Goals as goal

pub returns-in_err-_after : goal.returns-in_err-_after
returns-in_err-_after c =
    rw c.from_residual.ensures (λ l h.
    let p = no_scan_words (words_behind c.args.line.rest.now) l (behind_free c.args.line.rest.now) h in
    c.in_err-_after.ensures p.number [] p.is)

pub returns-then-is_done : goal.returns-then-is_done
returns-then-is_done c =
    let one = c.in_ok-_after.ensures in
    let l = NoScanLine one.0 in
    let behind = step one.2 ((c.if-is_done.ensures).0 refl) in
    let is = on [] (on [] (on (codes "no") (on (codes "text") (on (codes "scan") behind)))) in
    (l, says_words _ l is (All-nil IsWord) (All-nil IsByte), tt)

pub returns-else-is_done : goal.returns-else-is_done
returns-else-is_done c l h =
    let p = no_scan_words (words_behind c.args.line.rest.now) l (behind_free c.args.line.rest.now) h in
    let one = c.in_ok-_after.ensures in
    let rest1 = same_behind one.2 p.is in
    false≢true ((c.if-is_done.ensures).1 rest1)
