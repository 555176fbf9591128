use Rattle.std.proofs.Common.{◌≡◌, take, min}
use Rattle.cs_bytes.specs.Digits.{number_of}
use Rattle.cs_words.proofs.values.long_number.Given as goal

abbrev pub invariant-loop-digit : goal.invariant-loop-digit
invariant-loop-digit l = l.number ≡ min (number_of 10 (take l.digit-index l.digits)) 340282366920938463463374607431768211455
