-- All words are numerals where the next one is and those behind it are.
use Rattle.std.proofs.Common.{[]}
use Rattle.cs_lines.proofs.OnLines.Numerals.{numerals_more, numerals_front, numerals_less, numerals_back}
use Rattle.cs_lines.specs.Lines.Splits.{words_behind}
use Rattle.cs_lines.proofs.lines.numbers.Numbers.new.Goals as goal

pub returns-in_err-_number : goal.returns-in_err-_number
returns-in_err-_number c =
    rw c.from_residual.ensures (λ s.
    let n = numerals_front _ _ _ c.in-Some.ensures (c.loop-word.invariant.1 s) in
    c.in_err-_number.ensures n.0 n.1)

pub loop-word-preserved : goal.loop-word-preserved
loop-word-preserved c =
    let is = c.in-Some.ensures in
    let number = c.in_ok-_number.ensures in (
      λ s. c.loop-word.invariant.0 (numerals_more _ _ _ number.0 is number.1 s),
      λ s. numerals_less _ _ _ is (c.loop-word.invariant.1 s),
    )

pub returns : goal.returns
returns c =
    numerals_back (words_behind c.args.words.rest.now) (c.loop-word.invariant.0 ([], c.in_default.ensures))
