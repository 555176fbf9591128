use Rattle.std.proofs.Common.{◌≡◌, take}
use Rattle.cs_lex.specs.Reading.Patterns.{all_spelled}
use Rattle.cs_lex.proofs.reading.definitions.spelled.Given as goal

abbrev pub invariant-loop-definition : goal.invariant-loop-definition
invariant-loop-definition l = l.definitions ≡ all_spelled l.bytes (take l.definition-index l.all)
