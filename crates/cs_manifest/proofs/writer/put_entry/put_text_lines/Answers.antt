-- The newline alone where nothing was rendered, else what came of the rendering, by its parts.
use Rattle.std.proofs.Common.{ap}
use Rattle.cs_manifest.proofs.OnOutput.Pieces.{spelled}
use Rattle.cs_manifest.specs.Writer.Below.{text_below}
use Rattle.cs_manifest.proofs.writer.put_entry.put_text_lines.Goals as goal

pub returns-in-None : goal.returns-in-None
returns-in-None g c = rw c.in-None.is c.put.ensures

pub returns-in-Some : goal.returns-in-Some
returns-in-Some g c = rw c.in-Some.is (spelled _ (ap (text_below c.args.file.now) c.parts.ensures) c.put_rendered.ensures)
