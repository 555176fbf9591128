-- The texts of the tokens so far.
use Rattle.cs_texts.specs.Splice.Middle.{IsPut}
use Rattle.cs_texts.proofs.splice.middle.put_middle.Given as goal

abbrev pub invariant-loop-i : goal.invariant-loop-i
invariant-loop-i l = IsPut l.lexemes l.separator l.tokens l.from l.i l.out.items
