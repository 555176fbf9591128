-- Past the last piece nothing is set; before it the piece at the place is the spelling.
use Rattle.std.proofs.Common.{arith}
use Rattle.cs_spell.proofs.OnTexts.Pieces.{values_past, values_set}
use Rattle.cs_spell.proofs.texts.pieces.exchange.Goals as goal

pub returns-then-place-len : goal.returns-then-place-len
returns-then-place-len c = values_past c.args.pieces.now.items c.args.place c.args.spelling.now (omega arith)

pub returns : goal.returns
returns c = values_set c.args.pieces.now.items c.args.place c.args.spelling
