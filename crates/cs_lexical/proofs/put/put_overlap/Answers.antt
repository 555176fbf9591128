-- Both numbers and the text in quotes, or nothing where there is no text.
use Rattle.cs_manifest.proofs.OnOutput.Pieces.{nothing, then}
use Rattle.cs_lexical.proofs.put.put_overlap.Goals as goal

pub returns-in-Some : goal.returns-in-Some
returns-in-Some g c = rw c.in-Some.is (then (then (then (then c.put_count.ensures c.put_count-in-Some.ensures) c.put.ensures) c.put_quoted.ensures) c.put-in-Some.ensures)

pub returns-in_default : goal.returns-in_default
returns-in_default g c = rw c.in_default.is (nothing _)
