-- The goal's number behind its word, and behind it the goal.
use Rattle.cs_manifest.proofs.OnOutput.Pieces.{then}
use Rattle.cs_manifest.proofs.writer.put_entry.put_goal_words.Goals as goal

pub returns : goal.returns
returns g c = then c.put_count.ensures c.put_spaced_goal.ensures
