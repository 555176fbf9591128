use Rattle.std.proofs.Common.{◌-◌, [], take}
use Rattle.std.specs.Prelude.{slice_index_or}
use Rattle.cs_manifest.specs.Output.Words.{with_numbers}
use Rattle.cs_manifest.specs.Output.Putting.{Puts}
use Rattle.cs_lexical.specs.Lines.{overlap_behind}
use Rattle.cs_lexical.proofs.put.put_row.Given as goal

abbrev pub invariant-loop-place : goal.invariant-loop-place
invariant-loop-place g l = Puts g.S.Sink (with_numbers (overlap_behind l.rule) (take l.place (slice_index_or l.lexical.rows (l.rule - 1) []))) l.initial.output l.output
