-- The marks so far are aligned, and the place is where the next is to start.
use Rattle.std.proofs.Common.{◌<◌, length}
use Rattle.cs_texts.specs.Splice.Marks.{AreAlignedUpTo, IsDue}
use Rattle.cs_texts.proofs.splice.marks.are_lexemes.Given as goal

abbrev pub invariant-loop-i : goal.invariant-loop-i
invariant-loop-i l = record {
  aligned : AreAlignedUpTo l.lexemes l.separator l.tokens l.text l.marks l.i;
  due : l.i < length l.tokens → IsDue l.lexemes l.separator l.tokens l.text l.i l.at;
}
