-- A quote, what stands for the bytes, and a quote.
use Rattle.cs_manifest.proofs.OnOutput.Pieces.{then}
use Rattle.cs_manifest.proofs.output.names.put_quoted.Goals as goal

pub returns : goal.returns
returns g c = then c.put.ensures (then c.put_text_bytes.ensures c.put-2.ensures)
