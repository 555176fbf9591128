use Rattle.std.proofs.Common.{◌≡◌, take}
use Rattle.cs_spell.specs.Texts.Pieces.{values}
use Rattle.cs_texts.specs.Rendering.Joined.{joined}
use Rattle.cs_spell.proofs.texts.pieces.join.Given as goal

abbrev pub invariant-loop-i : goal.invariant-loop-i
invariant-loop-i l = l.text.items ≡ joined l.separator (take l.i (values l.pieces))
