-- The left mark, and behind it the right one.
use Rattle.cs_manifest.proofs.OnOutput.Pieces.{then}
use Rattle.cs_manifest.proofs.writer.put_entry.put_pair.Goals as goal

pub returns : goal.returns
returns g c = then c.put_spaced_mark.ensures c.put_spaced_mark-2.ensures
