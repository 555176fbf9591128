-- The first four numbers of the chain, one after another.
use Rattle.cs_manifest.proofs.OnOutput.Pieces.{then}
use Rattle.cs_chain_text.proofs.rows.parts.put_head.Goals as goal

pub returns : goal.returns
returns g c = then (then (then c.put_count.ensures c.put_count-2.ensures) c.put_count-3.ensures) c.put_count-4.ensures
