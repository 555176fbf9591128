use Rattle.std.proofs.Common.{take}
use Rattle.cs_member.specs.Tables.Sets.{InWords}
use Rattle.cs_member.proofs.tables.word.has.Given as goal

abbrev pub invariant-loop-word : goal.invariant-loop-word
invariant-loop-word l = InWords (take l.word-index l.words) l.number → ⊥
