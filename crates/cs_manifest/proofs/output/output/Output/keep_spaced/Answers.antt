-- The space and the word stand in the line behind what waits, and all else is as it was.
use Rattle.std.proofs.Common.{refl}
use Rattle.cs_manifest.proofs.OnOutput.Pieces.{kept}
use Rattle.cs_manifest.proofs.output.output.Output.keep_spaced.Goals as goal

pub returns : goal.returns
returns g c = kept refl refl refl refl refl c.put_spaced_at.ensures
