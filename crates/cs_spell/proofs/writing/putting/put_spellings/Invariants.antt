use Rattle.std.proofs.Common.{take}
use Rattle.cs_manifest.specs.Output.Putting.{Puts}
use Rattle.cs_manifest.specs.Output.Words.{with_numbers}
use Rattle.cs_spell.specs.Writing.Putting.{told_text}
use Rattle.cs_spell.proofs.writing.putting.put_spellings.Given as goal

abbrev pub invariant-loop-place : goal.invariant-loop-place
invariant-loop-place g l = Puts g.S.Sink (with_numbers (told_text l.file) (take l.place l.told)) l.initial.output l.output
