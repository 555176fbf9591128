-- The base's number and the goal's, each behind its word, and the newline.
use Rattle.cs_manifest.proofs.OnOutput.Pieces.{then}
use Rattle.cs_manifest.proofs.writer.put_entry.put_base.Goals as goal

pub returns : goal.returns
returns g c = then (then c.put_count.ensures c.put_count-2.ensures) c.put.ensures
