use Rattle.std.proofs.Common.{◌≡◌, take, min}
use Rattle.cs_bytes.specs.Digits.{number_of}
use Rattle.cs_lines.specs.Lines.Numbers.{greatest}
use Rattle.cs_lines.proofs.lines.word.number_in.Given as goal

abbrev pub invariant-loop-digit : goal.invariant-loop-digit
invariant-loop-digit l = l.number ≡ min (number_of 10 (take l.digit-index l.digits)) greatest
