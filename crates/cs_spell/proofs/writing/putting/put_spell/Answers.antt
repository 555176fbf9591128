-- The first line, the spellings, and the end.
use Rattle.cs_manifest.proofs.OnOutput.Pieces.{then}
use Rattle.cs_spell.proofs.writing.putting.put_spell.Goals as goal

pub returns : goal.returns
returns g c = then (then c.put.ensures c.put_spellings.ensures) c.put_end.ensures
