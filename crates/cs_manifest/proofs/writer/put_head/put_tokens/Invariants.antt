use Rattle.std.proofs.Common.{take}
use Rattle.cs_manifest.specs.Output.Words.{with_numbers}
use Rattle.cs_manifest.specs.Output.Putting.{Puts}
use Rattle.cs_manifest.specs.Manifest.Lines.{token_line}
use Rattle.cs_manifest.proofs.writer.put_head.put_tokens.Given as goal

abbrev pub invariant-loop-place : goal.invariant-loop-place
invariant-loop-place g l = Puts g.S.Sink (with_numbers token_line (take l.place l.names)) l.initial.output l.output
