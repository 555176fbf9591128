-- A number, the word and another number, and nothing more.
use Rattle.std.proofs.Common.{[], ◌∷◌, refl}
use Rattle.std.proofs.lemmas.Bool.{false≢true}
use Rattle.cs_lines.proofs.OnLines.Parts.{same_behind, same_behind_two, step, step_two}
use Rattle.cs_lines.specs.Words.Words.{numeral}
use Rattle.cs_lines.proofs.lines.words.Words.two_numbers.Goals as goal

pub returns-in_err-first : goal.returns-in_err-first
returns-in_err-first c =
    rw c.from_residual.ensures (λ n m e. c.in_err-first.ensures n (c.args.word.now ∷ numeral m ∷ []) e)

pub returns-in_err-second : goal.returns-in_err-second
returns-in_err-second c =
    rw c.from_residual-in_err-second.ensures (λ n m e. c.in_err-second.ensures m [] (same_behind c.in_ok-first.ensures.2 e))

pub returns-then-is_done : goal.returns-then-is_done
returns-then-is_done c =
    let one = c.in_ok-first.ensures in
    let two = c.in_ok-second.ensures in
    (one.0, two.0, one.1, two.1, step one.2 (step_two two.2 (c.if-is_done.ensures.0 refl)))

pub returns-else-is_done : goal.returns-else-is_done
returns-else-is_done c n m e =
    false≢true (c.if-is_done.ensures.1 (same_behind_two c.in_ok-second.ensures.2 (same_behind c.in_ok-first.ensures.2 e)))
