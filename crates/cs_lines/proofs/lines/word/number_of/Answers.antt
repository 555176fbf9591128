-- The digits of a numeral spell its number, and up to nineteen of them spell none above the greatest.
use Rattle.std.proofs.Common.{◌≡◌, ap, ◌∙◌, min, arith}
use Rattle.cs_bytes.specs.Digits.{number_of}
use Rattle.cs_lines.proofs.OnLines.Numerals.{number_numeral, numeral_all}
use Rattle.cs_lines.specs.Lines.Numbers.{greatest}
use Rattle.cs_lines.proofs.lines.word.number_of.Goals as goal

pub few_digits-requires-clause-digits : goal.few_digits-requires-clause-digits
few_digits-requires-clause-digits c = numeral_all c.args.word.now (c.is_numeral.ensures.0 c.if-not-is_numeral.false)

pub returns-then-word-le19 : goal.returns-then-word-le19
returns-then-word-le19 c =
    let is = c.is_numeral.ensures.0 c.if-not-is_numeral.false in
    let value = c.few_digits.ensures.value ∙ ap (number_of 10) is.1 ∙ number_numeral is.0 in
    let read : c.few_digits.result ≡ min is.0 greatest = omega (arith, value, c.few_digits.ensures.small) in
    (is.0, is.1, read)

pub returns-else-word-le19 : goal.returns-else-word-le19
returns-else-word-le19 c =
    let is = c.is_numeral.ensures.0 c.if-not-is_numeral.false in
    let value = ap (number_of 10) is.1 ∙ number_numeral is.0 in
    (is.0, is.1, c.number_in.ensures ∙ ap (λ n. min n greatest) value)
