-- The base's number and the place of the edit, each behind its word.
use Rattle.cs_manifest.proofs.OnOutput.Pieces.{then}
use Rattle.cs_manifest.proofs.filling.open.put_open_edit.Goals as goal

pub returns-in-Insert : goal.returns-in-Insert
returns-in-Insert g c = rw c.in-Insert.is (then c.put_count.ensures c.put_count-in-Insert.ensures)

pub returns-in-Replace : goal.returns-in-Replace
returns-in-Replace g c = rw c.in-Replace.is (then c.put_count.ensures c.put_count-in-Replace.ensures)
