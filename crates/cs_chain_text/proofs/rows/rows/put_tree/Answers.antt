-- The size, and the five pieces behind it.
use Rattle.cs_manifest.proofs.OnOutput.Pieces.{then}
use Rattle.cs_chain_text.proofs.rows.rows.put_tree.Goals as goal

pub returns : goal.returns
returns g c = then (then (then (then (then (then c.put.ensures c.put_numeral.ensures) c.put_piece.ensures) c.put_piece-2.ensures) c.put_piece-3.ensures) c.put_piece-4.ensures) c.put_piece-5.ensures
