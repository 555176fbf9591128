-- The number and the five parts of the lines, and between the parts the name three times and the lexeme once.
use Rattle.cs_manifest.proofs.OnOutput.Pieces.{then}
use Rattle.cs_manifest.proofs.writer.put_entry.put_filled.Goals as goal

pub returns : goal.returns
returns g c =
    let head = then (then c.put.ensures c.put_numeral.ensures) c.put_piece.ensures in
    let pair = then (then head c.put_piece-2.ensures) c.put_piece-3.ensures in
    let list = then (then pair c.put_piece-4.ensures) c.put_piece-5.ensures in
    let text = then (then list c.put_piece-6.ensures) c.put_piece-7.ensures in
    rw (← c.lines.view_is) (then (then text c.put_piece-8.ensures) c.put_piece-9.ensures)
