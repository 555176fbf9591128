-- The word, the token's name, its lexeme and the newline, one behind the other.
use Rattle.cs_manifest.proofs.OnOutput.Pieces.{then}
use Rattle.cs_manifest.proofs.writer.put_head.put_lexeme_line.Goals as goal

pub returns : goal.returns
returns g c = then (then (then c.put.ensures c.put_token_name.ensures) (then c.put-2.ensures c.put_lexeme.ensures)) c.put-3.ensures
