use Rattle.std.proofs.Common.{take}
use Rattle.cs_lex.specs.Reading.Found.{HaveFound}
use Rattle.cs_lex.proofs.reading.patterns.collect_patterns.Given as goal

abbrev pub invariant-loop-rule : goal.invariant-loop-rule
invariant-loop-rule l = HaveFound l.definitions l.bytes (take l.rule-index l.rules) l.patterns.items l.leaves
