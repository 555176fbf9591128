use Rattle.std.proofs.Common.{take}
use Rattle.cs_spell.specs.Texts.Pieces.{AreLexemesOf, values}
use Rattle.cs_spell.proofs.texts.pieces.gather.Given as goal

abbrev pub invariant-loop-i : goal.invariant-loop-i
invariant-loop-i l = AreLexemesOf l.lexemes (take l.i l.tokens) (values l.pieces.items)
