-- The list's part, the text's and the end's are two or three texts each, one behind the other.
use Rattle.cs_manifest.proofs.OnOutput.Pieces.{then}
use Rattle.cs_manifest.proofs.filling.open.put_part.Goals as goal

pub returns-in-List : goal.returns-in-List
returns-in-List g c = rw c.in-List.is (then (rw c.edit_place.ensures at c.put_right.ensures) c.put_yield.ensures)

pub returns-in-Text : goal.returns-in-Text
returns-in-Text g c = rw c.in-Text.is (then (then c.put_names.ensures c.put.ensures) c.put_text_bytes.ensures)

pub returns-in-End : goal.returns-in-End
returns-in-End g c = rw c.in-End.is (then c.put_text_bytes-in-End.ensures c.put-in-End.ensures)
