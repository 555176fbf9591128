-- The space, and behind it the number's digits.
use Rattle.cs_manifest.proofs.OnOutput.Pieces.{then}
use Rattle.cs_manifest.proofs.output.output.Output.put_spaced_large.Goals as goal

pub returns : goal.returns
returns g c = then c.put.ensures c.put_large.ensures
