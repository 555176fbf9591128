-- The set's words, the nonterminals' names and the newline, one behind the other.
use Rattle.cs_manifest.proofs.OnOutput.Pieces.{then}
use Rattle.cs_manifest.proofs.writer.put_closed.put_set.Goals as goal

pub returns : goal.returns
returns g c = then (then c.put.ensures c.put_nonterminals.ensures) c.put-2.ensures
