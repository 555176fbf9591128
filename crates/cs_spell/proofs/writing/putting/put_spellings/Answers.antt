-- One spelling more, with its number.
use Rattle.cs_manifest.proofs.OnOutput.Pieces.{nothing, numbered_more}
use Rattle.cs_spell.specs.Writing.Putting.{told_text}
use Rattle.cs_spell.proofs.writing.putting.put_spellings.Goals as goal

pub loop-place-init : goal.loop-place-init
loop-place-init g c = nothing _

pub loop-place-preserved : goal.loop-place-preserved
loop-place-preserved g c = numbered_more (told_text c.args.file.now) c.args.told.now c.loop-place.place c.index-told-place.result c.loop-place-test.true c.index-told-place.is c.loop-place.invariant c.put_spelling.ensures
