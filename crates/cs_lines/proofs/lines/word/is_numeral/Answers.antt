-- Digits are a numeral where there is one of them, or more and the first isn't 0.
use Rattle.std.proofs.Common.{refl, sym, ◌∙◌, inl, inr, length, arith, get_or}
use Rattle.std.proofs.lemmas.Bool.{false≢true, not-true, eqb-false, ne_eqb, not_from_false}
use Rattle.std.specs.Prelude.{◌==◌}
use Rattle.cs_lines.proofs.OnLines.Numerals.{are_numeral, not_leading, numeral_all}
use Rattle.cs_lines.proofs.lines.word.is_numeral.Goals as goal

pub returns-then-word-eq1 : goal.returns-then-word-eq1
returns-then-word-eq1 c =
    let word = c.args.word.now in
    let one = c.if-word-eq1.true in
    let are_digits = c.are_digits-are_digits.ensures in
    (λ t. are_numeral word (λ none. omega (arith, one, none)) (are_digits.0 t) (inl one), λ n. are_digits.1 (numeral_all word n))

pub returns-then-are_digits : goal.returns-then-are_digits
returns-then-are_digits c =
    let word = c.args.word.now in
    let digits = c.if-are_digits.ensures.0 refl in
    let some = eqb-false (length word) 0 (sym c.if-is_empty.ensures) in (
      λ t. are_numeral word some digits (inr (eqb-false (get_or word 0 0) 48 (not-true (get_or word 0 0 == 48) t))),
      λ n. not_from_false (get_or word 0 0 == 48) (ne_eqb (get_or word 0 0) 48 (λ e. not_leading word c.if-word-eq1.false e n)),
    )

pub returns-else-are_digits : goal.returns-else-are_digits
returns-else-are_digits c =
    let word = c.args.word.now in (
      λ t. absurd (false≢true (sym c.if-are_digits.false ∙ t)),
      λ n. c.are_digits-are_digits.ensures.1 (numeral_all word n),
    )
