use Rattle.std.proofs.Common.{take}
use Rattle.cs_spell.specs.Writing.Counts.{AreCounts}
use Rattle.cs_spell.specs.Telling.Seen.{all_told}
use Rattle.cs_spell.proofs.writing.counting.count_all.Given as goal

abbrev pub invariant-loop-place : goal.invariant-loop-place
invariant-loop-place l = AreCounts (take l.place (all_told l.told)) l.counts
