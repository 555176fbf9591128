-- The word, and behind it the mark that stands in front of the token.
use Rattle.cs_manifest.proofs.OnOutput.Pieces.{then}
use Rattle.cs_manifest.proofs.filling.open.put_left.Goals as goal

pub returns-in-Behind : goal.returns-in-Behind
returns-in-Behind g c = rw c.in-Behind.is (then c.put.ensures c.put_spaced_mark.ensures)
