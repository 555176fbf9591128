use Rattle.std.proofs.Common.{◌≡◌, take, min}
use Rattle.cs_bytes.specs.Digits.{number_of}
use Rattle.cs_bytes.proofs.digits.number.Given as goal

abbrev pub invariant-loop-digit : goal.invariant-loop-digit
invariant-loop-digit l = l.number ≡ min (number_of l.base (take l.digit-index l.digits)) 4294967295
