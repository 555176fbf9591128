-- One token's line more, by its number.
use Rattle.cs_manifest.proofs.OnOutput.Pieces.{nothing, numbered_more}
use Rattle.cs_manifest.specs.Manifest.Lines.{token_line}
use Rattle.cs_manifest.proofs.writer.put_head.put_tokens.Goals as goal

pub loop-place-init : goal.loop-place-init
loop-place-init g c = nothing _

pub loop-place-preserved : goal.loop-place-preserved
loop-place-preserved g c = numbered_more token_line c.args.names.now c.loop-place.place c.index-names-place.result c.loop-place-test.true c.index-names-place.is c.loop-place.invariant c.put_token_line.ensures
