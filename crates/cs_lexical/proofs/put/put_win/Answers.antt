-- Nothing is won, or a text is put in quotes.
use Rattle.cs_manifest.proofs.OnOutput.Pieces.{then}
use Rattle.cs_lexical.proofs.put.put_win.Goals as goal

pub returns-in-None : goal.returns-in-None
returns-in-None g c = rw c.in-None.is c.put.ensures

pub returns-in-Some : goal.returns-in-Some
returns-in-Some g c = rw c.in-Some.is (then c.put-in-Some.ensures c.put_quoted.ensures)
