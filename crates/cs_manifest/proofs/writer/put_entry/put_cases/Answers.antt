-- Where there is no count of cases, nothing is put.
use Rattle.cs_manifest.proofs.OnOutput.Pieces.{nothing}
use Rattle.cs_manifest.proofs.writer.put_entry.put_cases.Goals as goal

pub returns-in-None : goal.returns-in-None
returns-in-None g c = rw c.in-None.is (nothing _)
