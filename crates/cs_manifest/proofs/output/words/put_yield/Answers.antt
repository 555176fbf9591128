-- The newline above and the word, and behind them the names.
use Rattle.cs_manifest.proofs.OnOutput.Pieces.{then}
use Rattle.cs_manifest.proofs.output.words.put_yield.Goals as goal

pub returns : goal.returns
returns g c = then c.put.ensures c.put_names.ensures
