use Rattle.std.proofs.Common.{take}
use Rattle.cs_manifest.specs.Output.Words.{with_numbers}
use Rattle.cs_manifest.specs.Output.Putting.{Puts}
use Rattle.cs_manifest.specs.Manifest.SharedLines.{edge_line}
use Rattle.cs_manifest.proofs.writer.put_closed.put_edges.Given as goal

abbrev pub invariant-loop-place : goal.invariant-loop-place
invariant-loop-place g l = Puts g.S.Sink (with_numbers (edge_line l.set l.file) (take l.place l.edges)) l.initial.output l.output
