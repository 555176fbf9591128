-- The word, and a number behind it.
use Rattle.std.proofs.Common.{◌∷◌}
use Rattle.cs_lines.proofs.OnLines.Parts.{same_behind, step}
use Rattle.cs_lines.specs.Words.Words.{numeral}
use Rattle.cs_lines.proofs.lines.words.Words.counted.Goals as goal

pub returns-in_err-keyword : goal.returns-in_err-keyword
returns-in_err-keyword c =
    rw c.from_residual.ensures (λ n others e. c.in_err-keyword.ensures (numeral n ∷ others) e)

pub returns-in_err-number : goal.returns-in_err-number
returns-in_err-number c =
    rw c.from_residual-in_err-number.ensures (λ n others e. c.in_err-number.ensures n others (same_behind (c.in_ok-keyword.ensures) e))

pub returns : goal.returns
returns c =
    let one = c.in_ok-number.ensures in
    (one.0, one.1, step (c.in_ok-keyword.ensures) one.2)
