use Rattle.std.proofs.Common.{◌≡◌, ◌++◌, take}
use Rattle.cs_spell.specs.Texts.Pieces.{followed, values}
use Rattle.cs_spell.proofs.texts.pieces.surround.Given as goal

abbrev pub invariant-loop-i : goal.invariant-loop-i
invariant-loop-i l = l.text.items ≡ l.spelling ++ followed l.spelling (take l.i (values l.pieces))
