-- The goal, and then the size.
use Rattle.cs_manifest.proofs.OnOutput.Pieces.{then}
use Rattle.cs_spell.proofs.writing.putting.put_goal.Goals as goal

pub returns : goal.returns
returns g c = then c.put_count.ensures c.put_count-2.ensures
