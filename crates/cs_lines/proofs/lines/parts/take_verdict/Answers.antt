-- `infeasible` and `large` stand alone; behind `size` stand its number, the goal's own case and the first one.
use Rattle.std.proofs.Common.{◌∷◌, refl}
use Rattle.std.proofs.lemmas.Bool.{false≢true}
use Rattle.std.specs.Prelude.{codes}
use Rattle.cs_lines.proofs.OnLines.Parts.{same_behind, same_behind_two, step, step_two, front, some_verdict, feasible_verdict, no_verdict}
use Rattle.cs_lines.specs.Lines.Line.{Feasible, Infeasible, Large}
use Rattle.cs_lines.specs.Words.Words.{numeral}
use Rattle.cs_lines.proofs.lines.parts.take_verdict.Goals as goal

pub returns-in_err-word : goal.returns-in_err-word
returns-in_err-word c =
    rw c.from_residual.ensures (λ verdict others e.
    some_verdict verdict others _ (c.in_err-word.ensures) e)

pub returns-in_err-size : goal.returns-in_err-size
returns-in_err-size c =
    rw c.from_residual-in_err-size.ensures (λ verdict others e.
    let one = c.in_ok-word.ensures in
    let p = feasible_verdict verdict others _ _ (front one ((c.if-same_word-3.ensures).0 refl)) e in
    c.in_err-size.ensures p.size (codes "case" ∷ numeral p.case ∷ codes "first" ∷ numeral p.first ∷ others) p.is)

pub returns-in_err-case : goal.returns-in_err-case
returns-in_err-case c =
    rw c.from_residual-in_err-case.ensures (λ verdict others e.
    let one = c.in_ok-word.ensures in
    let p = feasible_verdict verdict others _ _ (front one ((c.if-same_word-3.ensures).0 refl)) e in
    let two = c.in_ok-size.ensures in
    let rest1 = same_behind two.2 p.is in
    c.in_err-case.ensures p.case (codes "first" ∷ numeral p.first ∷ others) rest1)

pub returns-in_err-first : goal.returns-in_err-first
returns-in_err-first c =
    rw c.from_residual-in_err-first.ensures (λ verdict others e.
    let one = c.in_ok-word.ensures in
    let p = feasible_verdict verdict others _ _ (front one ((c.if-same_word-3.ensures).0 refl)) e in
    let two = c.in_ok-size.ensures in
    let rest1 = same_behind two.2 p.is in
    let three = c.in_ok-case.ensures in
    let rest2 = same_behind_two three.2 rest1 in
    c.in_err-first.ensures p.first others rest2)

pub returns-then-same_word : goal.returns-then-same_word
returns-then-same_word c =
    let one = c.in_ok-word.ensures in
    (Infeasible, tt, front one ((c.if-same_word.ensures).0 refl))

pub returns-then-same_word-2 : goal.returns-then-same_word-2
returns-then-same_word-2 c =
    let one = c.in_ok-word.ensures in
    (Large, tt, front one ((c.if-same_word-2.ensures).0 refl))

pub returns-in_ok-first : goal.returns-in_ok-first
returns-in_ok-first c =
    let one = c.in_ok-word.ensures in
    let two = c.in_ok-size.ensures in
    let three = c.in_ok-case.ensures in
    let four = c.in_ok-first.ensures in
    (Feasible two.0 three.0 four.0, (two.1, three.1, four.1), step (front one ((c.if-same_word-3.ensures).0 refl)) (step two.2 (step_two three.2 four.2)))

pub returns-else-same_word-3 : goal.returns-else-same_word-3
returns-else-same_word-3 c verdict others e =
    no_verdict _ _ _ (c.in_ok-word.ensures) (λ e. false≢true ((c.if-same_word.ensures).1 e)) (λ e. false≢true ((c.if-same_word-2.ensures).1 e)) (λ e. false≢true ((c.if-same_word-3.ensures).1 e)) verdict others e
