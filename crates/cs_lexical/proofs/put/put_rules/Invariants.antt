use Rattle.std.proofs.Common.{take}
use Rattle.cs_manifest.specs.Output.Words.{with_numbers}
use Rattle.cs_manifest.specs.Output.Putting.{Puts}
use Rattle.cs_lexical.specs.Lines.{rule_line}
use Rattle.cs_lexical.proofs.put.put_rules.Given as goal

abbrev pub invariant-loop-place : goal.invariant-loop-place
invariant-loop-place g l = Puts g.S.Sink (with_numbers (rule_line l.file l.kinds) (take l.place l.lexical.wins)) l.initial.output l.output
