-- The newline above and the word, and behind them the numbers.
use Rattle.cs_manifest.proofs.OnOutput.Pieces.{then}
use Rattle.cs_manifest.proofs.writer.put_entry.put_derivation.Goals as goal

pub returns : goal.returns
returns g c = then c.put.ensures c.put_numbers.ensures
