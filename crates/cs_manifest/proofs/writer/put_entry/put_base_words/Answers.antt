-- The negative's number and the base's, each behind its word.
use Rattle.cs_manifest.proofs.OnOutput.Pieces.{then}
use Rattle.cs_manifest.proofs.writer.put_entry.put_base_words.Goals as goal

pub returns : goal.returns
returns g c = then c.put_count.ensures c.put_count-2.ensures
