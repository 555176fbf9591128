-- Eighteen digits spell less than 10 ^ 18, so there is room for ten times as much and one digit more.
use Rattle.std.proofs.Common.{◌^◌, ◌≤◌, arith, lit<}
use native.Mathlib.Nat.{pow-le-pow_right}
use Rattle.cs_lines.proofs.lines.word.few_digits.Goals as goal

pub overflow_mul-number : goal.overflow_mul-number
overflow_mul-number c =
    let most : 10 ^ c.loop-digit.digit-index ≤ 10 ^ 18 = pow-le-pow_right (lit< tt) {j = 18} (omega (arith, c.loop-digit-test.true, c.requires.few)) in
    record { fits = omega (arith, most, c.loop-digit.invariant.1) }

pub overflow_add-number : goal.overflow_add-number
overflow_add-number c =
    let most : 10 ^ c.loop-digit.digit-index ≤ 10 ^ 18 = pow-le-pow_right (lit< tt) {j = 18} (omega (arith, c.loop-digit-test.true, c.requires.few)) in
    let digit = c.requires.digits c.loop-digit.digit-index 0 c.loop-digit-test.true in
    record { fits = omega (arith, most, c.loop-digit.invariant.1, digit.1, c.from.ensures) }
