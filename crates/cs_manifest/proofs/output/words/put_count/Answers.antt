-- The word, and behind it the number.
use Rattle.cs_manifest.proofs.OnOutput.Pieces.{then}
use Rattle.cs_manifest.proofs.output.words.put_count.Goals as goal

pub returns : goal.returns
returns g c = then c.put.ensures c.put_number.ensures
