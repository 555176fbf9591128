use Rattle.cs_texts.specs.Rendering.Parts.{HaveUpTo}
use Rattle.cs_texts.proofs.rendering.text.room_for.Given as goal

abbrev pub invariant-loop-i : goal.invariant-loop-i
invariant-loop-i l = HaveUpTo l.lexemes l.tokens l.i
