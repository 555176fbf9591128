-- The words, the mark, and the marks that follow it, one behind the other.
use Rattle.cs_manifest.proofs.OnOutput.Pieces.{then}
use Rattle.cs_manifest.proofs.writer.put_closed.put_next.Goals as goal

pub returns : goal.returns
returns g c = then (then (then (then c.put.ensures c.put_spaced_mark.ensures) c.put-2.ensures) c.put_marks.ensures) c.put-3.ensures
