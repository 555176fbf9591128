use Rattle.cs_texts.specs.Rendering.Parts.{IsTextUpTo}
use Rattle.cs_texts.proofs.rendering.text.join.Given as goal

abbrev pub invariant-loop-i : goal.invariant-loop-i
invariant-loop-i l = IsTextUpTo l.lexemes l.separator l.tokens l.i l.text.items
