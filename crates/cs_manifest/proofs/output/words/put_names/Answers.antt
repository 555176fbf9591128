-- One name more, behind a space.
use Rattle.cs_manifest.specs.Output.Names.{token_of}
use Rattle.cs_manifest.proofs.OnOutput.Pieces.{nothing, spaced_next}
use Rattle.cs_manifest.proofs.output.words.put_names.Goals as goal

pub loop-token-init : goal.loop-token-init
loop-token-init g c = nothing _

pub loop-token-preserved : goal.loop-token-preserved
loop-token-preserved g c = spaced_next (token_of c.args.file.now) c.args.tokens.now c.loop-token.token-index _ c.loop-token-test.true c.loop-token.invariant c.put_spaced_token.ensures
