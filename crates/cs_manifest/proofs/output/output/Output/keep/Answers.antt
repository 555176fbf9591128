-- The piece stands in the line behind what waits, and all else is as it was.
use Rattle.std.proofs.Common.{refl}
use Rattle.cs_manifest.proofs.OnOutput.Pieces.{kept}
use Rattle.cs_manifest.proofs.output.output.Output.keep.Goals as goal

pub returns-clause-puts : goal.returns-clause-puts
returns-clause-puts g c = kept refl refl refl refl refl c.put_at.ensures
