-- A token's kind is a word, and the token's name behind it.
use Rattle.cs_manifest.proofs.OnOutput.Pieces.{then}
use Rattle.cs_lexical.proofs.put.put_kind_words.Goals as goal

pub returns-in-Token : goal.returns-in-Token
returns-in-Token g c = rw c.in-Token.is (then c.put.ensures c.put_name.ensures)
