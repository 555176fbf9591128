-- The rule's number, and the change.
use Rattle.cs_manifest.proofs.OnOutput.Pieces.{then}
use Rattle.cs_wrong.proofs.writing.lines.put_slip.Goals as goal

pub returns-in-Of : goal.returns-in-Of
returns-in-Of g c = rw c.in-Of.is (then c.put_count.ensures c.put_change.ensures)
