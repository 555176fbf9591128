-- The space behind what waited, and behind it the word.
use Rattle.cs_manifest.proofs.OnOutput.Pieces.{then}
use Rattle.cs_manifest.proofs.output.output.Output.put_spaced_behind.Goals as goal

pub returns : goal.returns
returns g c = then c.put_behind.ensures c.put.ensures
