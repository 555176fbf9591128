-- The parts of two pieces are the one piece and then the other.
use Rattle.cs_manifest.proofs.OnOutput.Pieces.{then}
use Rattle.cs_chain_text.proofs.rows.parts.put_part.Goals as goal

pub returns-in-Middle : goal.returns-in-Middle
returns-in-Middle g c = rw c.in-Middle.is (then c.put_numbers-in-Middle.ensures c.put_yield.ensures)

pub returns-in-End : goal.returns-in-End
returns-in-End g c = rw c.in-End.is (then c.put_names-in-End.ensures c.put.ensures)
