-- The seven counts in their order, and the end of the line.
use Rattle.cs_manifest.proofs.OnOutput.Pieces.{then}
use Rattle.cs_spell.proofs.writing.putting.put_end.Goals as goal

pub returns : goal.returns
returns g c =
    then (then (then (then (then (then (then c.put_count.ensures c.put_count-2.ensures) c.put_count-3.ensures) c.put_count-4.ensures) c.put_count-5.ensures) c.put_count-6.ensures) c.put_count-7.ensures) c.put.ensures
