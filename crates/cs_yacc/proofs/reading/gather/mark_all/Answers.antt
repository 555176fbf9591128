-- One mark more, which is that of one spelling, since the spellings differ.
use Rattle.std.proofs.Common.{◌∙◌, length, ap, arith}
use Rattle.std.proofs.lemmas.Grind.{common_steps}
use Rattle.std.proofs.lemmas.List.{length-map}
use Rattle.cs_yacc.specs.Reading.Meaning.{has_spelling}
use Rattle.cs_yacc.proofs.OnReading.Marks.{mark_more}
use Rattle.cs_yacc.proofs.reading.gather.mark_all.Goals as goal

pub loop-place-preserved : goal.loop-place-preserved
loop-place-preserved c = (
  grind (arith, common_steps),
  λ words among apart tells.
      mark_more among words c.args.places.now c.loop-place.place-index (length c.args.marks.now.items) _ _ apart (ap length tells ∙ length-map words (has_spelling among)) c.requires c.loop-place-test.true (c.loop-place.invariant.1 words among apart tells)
      (grind (arith, common_steps)),
)
