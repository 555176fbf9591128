-- Each goal's word, and behind it what the goal has: one number, three numbers, or two marks.
use Rattle.cs_manifest.proofs.OnOutput.Pieces.{then}
use Rattle.cs_manifest.proofs.writer.put_entry.put_spaced_goal.Goals as goal

pub returns-in-Rule : goal.returns-in-Rule
returns-in-Rule g c = rw c.in-Rule.is c.put_count.ensures

pub returns-in-Context : goal.returns-in-Context
returns-in-Context g c = rw c.in-Context.is (then (then c.put_count-in-Context.ensures c.put_spaced_number.ensures) c.put_spaced_number-in-Context.ensures)

pub returns-in-Pair : goal.returns-in-Pair
returns-in-Pair g c = rw c.in-Pair.is (then c.put.ensures c.put_pair.ensures)
