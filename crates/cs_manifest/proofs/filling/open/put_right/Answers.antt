-- The mark that stands behind the token, and behind it the place, which is one further.
use Rattle.cs_manifest.proofs.OnOutput.Pieces.{then}
use Rattle.cs_manifest.proofs.filling.open.put_right.Goals as goal

pub returns-in-Before : goal.returns-in-Before
returns-in-Before g c = rw c.in-Before.is (then c.put_spaced_mark.ensures c.put_count-in-Before.ensures)
