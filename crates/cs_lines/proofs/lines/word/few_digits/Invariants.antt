use Rattle.std.proofs.Common.{◌≡◌, ◌<◌, ◌^◌, take}
use Rattle.cs_bytes.specs.Digits.{number_of}
use Rattle.cs_lines.proofs.lines.word.few_digits.Given as goal

abbrev pub invariant-loop-digit : goal.invariant-loop-digit
invariant-loop-digit l = (l.number ≡ number_of 10 (take l.digit-index l.digits)) × (l.number < 10 ^ l.digit-index)
