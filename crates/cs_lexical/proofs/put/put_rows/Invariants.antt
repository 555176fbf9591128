use Rattle.std.proofs.Common.{take}
use Rattle.cs_manifest.specs.Output.Words.{with_numbers}
use Rattle.cs_manifest.specs.Output.Putting.{Puts}
use Rattle.cs_lexical.specs.Lines.{overlap_lines}
use Rattle.cs_lexical.proofs.put.put_rows.Given as goal

abbrev pub invariant-loop-place : goal.invariant-loop-place
invariant-loop-place g l = Puts g.S.Sink (with_numbers overlap_lines (take l.place l.lexical.rows)) l.initial.output l.output
