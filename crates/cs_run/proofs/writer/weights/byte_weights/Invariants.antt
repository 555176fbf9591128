use Rattle.std.proofs.Common.{◌≡◌, map, take}
use Rattle.cs_run.proofs.OnWriter.Numbers.{number_by}
use Rattle.cs_run.proofs.writer.weights.byte_weights.Given as goal

abbrev pub invariant-loop-place : goal.invariant-loop-place
invariant-loop-place l = l.numbers.items ≡ map number_by (take l.place l.lexemes)
