use Rattle.std.proofs.Common.{◌-◌, ◌≤◌, length, take}
use Rattle.std.specs.List.{flat_map}
use Rattle.cs_manifest.specs.Output.Putting.{Puts}
use Rattle.cs_manifest.specs.Output.Words.{text_byte}
use Rattle.cs_manifest.proofs.output.names.put_runs.Given as goal

abbrev pub invariant-loop-at : goal.invariant-loop-at
invariant-loop-at g l = (l.at ≤ length l.text) × Puts g.S.Sink (flat_map text_byte (take l.at l.text)) l.initial.output l.output

abbrev pub decreases-loop-at : goal.decreases-loop-at
decreases-loop-at g l = length l.text - l.at
