-- An edit that puts a token has its place, and behind it the token's name.
use Rattle.cs_manifest.proofs.OnOutput.Pieces.{then}
use Rattle.cs_manifest.proofs.writer.put_entry.put_edit.Goals as goal

pub returns-in-Insert : goal.returns-in-Insert
returns-in-Insert g c = rw c.in-Insert.is (then c.put_count-in-Insert.ensures c.put_spaced_token.ensures)

pub returns-in-Replace : goal.returns-in-Replace
returns-in-Replace g c = rw c.in-Replace.is (then c.put_count-in-Replace.ensures c.put_spaced_token-in-Replace.ensures)
