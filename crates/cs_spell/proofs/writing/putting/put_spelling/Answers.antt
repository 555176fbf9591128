-- The number of the rule, and then what is told of it.
use Rattle.cs_manifest.proofs.OnOutput.Pieces.{then}
use Rattle.cs_spell.proofs.writing.putting.put_spelling.Goals as goal

pub returns : goal.returns
returns g c = then c.put_count.ensures c.put_told.ensures
