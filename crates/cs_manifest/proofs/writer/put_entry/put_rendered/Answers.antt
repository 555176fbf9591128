-- Where there is no text, the token's name or the number stands behind the words and in front of the newline.
use Rattle.cs_manifest.proofs.OnOutput.Pieces.{then}
use Rattle.cs_manifest.proofs.writer.put_entry.put_rendered.Goals as goal

pub returns-in-NoLexeme : goal.returns-in-NoLexeme
returns-in-NoLexeme g c = rw c.in-NoLexeme.is (then (then c.put.ensures c.put_spaced_token.ensures) c.put-in-NoLexeme.ensures)

pub returns-in-Differs : goal.returns-in-Differs
returns-in-Differs g c = rw c.in-Differs.is (then c.put_count.ensures c.put-in-Differs.ensures)
