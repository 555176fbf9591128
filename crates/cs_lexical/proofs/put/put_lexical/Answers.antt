-- The head, the rules, the pairs and the end, one behind the other.
use Rattle.cs_manifest.proofs.OnOutput.Pieces.{then}
use Rattle.cs_lexical.proofs.put.put_lexical.Goals as goal

pub returns : goal.returns
returns g c = then (then (then c.put.ensures c.put_rules.ensures) c.put_rows.ensures) c.put_end.ensures
