-- A number below ten has one digit, one below a hundred two, one below a thousand three, and the others four.
use Rattle.std.proofs.Common.{◌++◌, ◌∙◌, List, ap, arith, take, ℕ}
use Rattle.cs_manifest.proofs.OnOutput.Numerals.{four_digits, one_digit, three_digits, two_digits}
use Rattle.cs_manifest.proofs.output.output.put_digits.Goals as goal

pub returns-then-number-lt10 : goal.returns-then-number-lt10
returns-then-number-lt10 c =
    c.put_front.ensures.front
    ∙ ap (λ (ds : List ℕ). take c.args.at c.args.line.now ++ ds)
    (one_digit c.args.number (omega (arith, c.if-number-lt10.true)) c.digit.ensures)

pub returns-then-number-lt100 : goal.returns-then-number-lt100
returns-then-number-lt100 c =
    c.put_front-then-number-lt100.ensures.front
    ∙ ap (λ (ds : List ℕ). take c.args.at c.args.line.now ++ ds)
    (two_digits c.args.number (omega (arith, c.if-number-lt10.false)) (omega (arith, c.if-number-lt100.true)) c.digit-then-number-lt100.ensures c.digit-then-number-lt100-2.ensures)

pub returns-then-number-lt1000 : goal.returns-then-number-lt1000
returns-then-number-lt1000 c =
    c.put_front-then-number-lt1000.ensures.front
    ∙ ap (λ (ds : List ℕ). take c.args.at c.args.line.now ++ ds)
    (three_digits c.args.number (omega (arith, c.if-number-lt100.false)) (omega (arith, c.if-number-lt1000.true)) c.digit-then-number-lt1000.ensures c.digit-then-number-lt1000-2.ensures c.digit-then-number-lt1000-3.ensures)

pub returns-else-number-lt1000 : goal.returns-else-number-lt1000
returns-else-number-lt1000 c =
    c.put_front-else-number-lt1000.ensures.front
    ∙ ap (λ (ds : List ℕ). take c.args.at c.args.line.now ++ ds)
    (four_digits c.args.number (omega (arith, c.if-number-lt1000.false)) c.requires.small c.digit-else-number-lt1000.ensures c.digit-else-number-lt1000-2.ensures c.digit-else-number-lt1000-3.ensures c.digit-else-number-lt1000-4.ensures)
