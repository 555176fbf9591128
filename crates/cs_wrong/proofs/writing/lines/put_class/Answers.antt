-- The marks of the pair, and its place.
use Rattle.cs_manifest.proofs.OnOutput.Pieces.{nothing, then}
use Rattle.cs_wrong.proofs.writing.lines.put_class.Goals as goal

pub returns-in-Pair : goal.returns-in-Pair
returns-in-Pair g c = rw c.in-Pair.is (then (then (then c.put.ensures c.put_spaced_mark.ensures) c.put_spaced_mark-in-Pair.ensures) c.put_count.ensures)

pub returns-in-Nothing : goal.returns-in-Nothing
returns-in-Nothing g c = rw c.in-Nothing.is (nothing _)

pub returns-in-Large : goal.returns-in-Large
returns-in-Large g c = rw c.in-Large.is (nothing _)

pub returns-in-Again : goal.returns-in-Again
returns-in-Again g c = rw c.in-Again.is (nothing _)

pub returns-in-Long : goal.returns-in-Long
returns-in-Long g c = rw c.in-Long.is (nothing _)

pub returns-in-Sentence : goal.returns-in-Sentence
returns-in-Sentence g c = rw c.in-Sentence.is (nothing _)
