-- Each form's line, and behind it the parts that the form has, in their order.
use Rattle.cs_manifest.proofs.OnOutput.Pieces.{then}
use Rattle.cs_manifest.proofs.writer.put_head.put_head.Goals as goal

pub returns-in-Rules : goal.returns-in-Rules
returns-in-Rules g c = rw c.in-Rules.is (then c.put.ensures c.put_file.ensures)

pub returns-in-Suite : goal.returns-in-Suite
returns-in-Suite g c = rw c.in-Suite.is (then c.put-in-Suite.ensures c.put_tables.ensures)

pub returns-in-Shared : goal.returns-in-Shared
returns-in-Shared g c = rw c.in-Shared.is (then (then (then c.put-in-Shared.ensures c.put_weigh.ensures) c.put_tables-in-Shared.ensures) c.put_closed.ensures)
