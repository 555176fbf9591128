-- Behind what was passed on the piece waits, or is written, or is lost where a write has failed.
use Rattle.cs_manifest.proofs.OnOutput.Pieces.{lost, then}
use Rattle.cs_manifest.proofs.output.output.Output.put_behind.Goals as goal

pub returns-then-self : goal.returns-then-self
returns-then-self g c = then c.pass_on.ensures.puts (lost c.if-self.true)

pub returns-then-piece-le-LINE_LENGTH : goal.returns-then-piece-le-LINE_LENGTH
returns-then-piece-le-LINE_LENGTH g c = then c.pass_on.ensures.puts c.keep.ensures.puts

pub returns-else-piece-le-LINE_LENGTH : goal.returns-else-piece-le-LINE_LENGTH
returns-else-piece-le-LINE_LENGTH g c = then c.pass_on.ensures.puts c.write.ensures
