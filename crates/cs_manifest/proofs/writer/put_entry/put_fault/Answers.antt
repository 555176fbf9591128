-- The edit, the pair's marks and the place, one behind the other.
use Rattle.cs_manifest.proofs.OnOutput.Pieces.{then}
use Rattle.cs_manifest.proofs.writer.put_entry.put_fault.Goals as goal

pub returns : goal.returns
returns g c = then (then c.put_edit.ensures (then c.put.ensures c.put_pair.ensures)) c.put_count.ensures
