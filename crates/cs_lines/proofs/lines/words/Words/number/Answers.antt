-- The next word is a numeral, or the words don't begin with one.
use Rattle.std.proofs.Common.{◌≡◌, [], ◌∷◌, sym, ◌∙◌}
use Rattle.cs_lines.proofs.OnLines.Parts.{same_front, front}
use Rattle.cs_lines.specs.Words.Words.{numeral}
use Rattle.cs_lines.proofs.lines.words.Words.number.Goals as goal

pub returns-in_err-next : goal.returns-in_err-next
returns-in_err-next c =
    rw c.from_residual.ensures (λ n others e.
    let both : [] ≡ numeral n ∷ others = sym (c.in_err-next.ensures) ∙ e in
    absurd cc)

pub returns-in_err-number : goal.returns-in_err-number
returns-in_err-number c =
    rw c.from_residual-in_err-number.ensures (λ n others e. c.in_err-number.ensures n (same_front (c.in_ok-next.ensures) e))

pub returns : goal.returns
returns c =
    let one = c.in_ok-number.ensures in
    (one.0, one.2, front (c.in_ok-next.ensures) one.1)
