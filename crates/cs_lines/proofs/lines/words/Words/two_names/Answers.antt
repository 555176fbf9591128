-- A name, and another behind it.
use Rattle.std.proofs.Common.{◌∷◌}
use Rattle.cs_lines.proofs.OnLines.Parts.{same_behind, step}
use Rattle.cs_lines.proofs.lines.words.Words.two_names.Goals as goal

pub returns-in_err-left : goal.returns-in_err-left
returns-in_err-left c =
    rw c.from_residual.ensures (λ left right others h k e. c.in_err-left.ensures left (right ∷ others) h e)

pub returns-in_err-right : goal.returns-in_err-right
returns-in_err-right c =
    rw c.from_residual-in_err-right.ensures (λ left right others h k e.
    let one = c.in_ok-left.ensures in
    c.in_err-right.ensures right others k (same_behind one.1 e))

pub returns : goal.returns
returns c =
    let one = c.in_ok-left.ensures in
    let two = c.in_ok-right.ensures in
    (one.0, two.0, step one.1 two.1)
