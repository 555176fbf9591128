-- The token, the goal and the place, or the goal of a skip.
use Rattle.cs_manifest.proofs.OnOutput.Pieces.{then}
use Rattle.cs_spell.proofs.writing.putting.put_way.Goals as goal

pub returns-in-Gives : goal.returns-in-Gives
returns-in-Gives g c = rw c.in-Gives.is (then (then (then c.put.ensures c.put_spaced_token.ensures) c.put_goal.ensures) c.put_count.ensures)

pub returns-in-Skips : goal.returns-in-Skips
returns-in-Skips g c = rw c.in-Skips.is (then c.put-in-Skips.ensures c.put_goal-in-Skips.ensures)
