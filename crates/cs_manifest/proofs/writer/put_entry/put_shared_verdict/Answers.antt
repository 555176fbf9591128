-- A feasible goal has its size, its case and the first case that meets it, each behind its word, and the newline.
use Rattle.cs_manifest.proofs.OnOutput.Pieces.{then}
use Rattle.cs_manifest.proofs.writer.put_entry.put_shared_verdict.Goals as goal

pub returns-in-Feasible : goal.returns-in-Feasible
returns-in-Feasible g c = rw c.in-Feasible.is (then (then (then c.put_count.ensures c.put_count-in-Feasible.ensures) c.put_count-in-Feasible-2.ensures) c.put-in-Feasible.ensures)
