-- The set's words, the nonterminal's name and the tokens' names, one behind the other.
use Rattle.cs_manifest.proofs.OnOutput.Pieces.{then}
use Rattle.cs_manifest.proofs.writer.put_closed.put_edge.Goals as goal

pub returns : goal.returns
returns g c = then (then (then (then c.put.ensures c.put_nonterminal.ensures) c.put-2.ensures) c.put_names.ensures) c.put-3.ensures
