-- Behind the last digit the number is that of all digits, or the greatest.
use Rattle.std.proofs.Common.{ℕ, List, ap, ◌∙◌, min}
use Rattle.std.proofs.lemmas.List.{take_all}
use Rattle.cs_bytes.specs.Digits.{number_of}
use Rattle.cs_lines.specs.Lines.Numbers.{greatest}
use Rattle.cs_lines.proofs.lines.word.number_in.Goals as goal

pub returns : goal.returns
returns c =
    let whole = take_all c.loop-digit.digit-index c.args.digits.now c.loop-digit-test.false in
    c.loop-digit.invariant ∙ ap (λ (ds : List ℕ). min (number_of 10 ds) greatest) whole
