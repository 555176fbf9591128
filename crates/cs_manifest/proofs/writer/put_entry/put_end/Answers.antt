-- The counts, each behind its word, in the order of the end line, and the newline.
use Rattle.cs_manifest.proofs.OnOutput.Pieces.{then}
use Rattle.cs_manifest.proofs.writer.put_entry.put_end.Goals as goal

pub returns : goal.returns
returns g c = then (then (then (then (then (then c.put_count.ensures c.put_count-2.ensures) c.put_count-3.ensures) c.put_count-4.ensures) c.put_count-5.ensures) c.put_cases.ensures) c.put.ensures
