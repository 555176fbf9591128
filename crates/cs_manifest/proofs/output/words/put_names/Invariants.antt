use Rattle.std.proofs.Common.{take}
use Rattle.cs_manifest.specs.Output.Words.{spaced}
use Rattle.cs_manifest.specs.Output.Names.{token_of}
use Rattle.cs_manifest.specs.Output.Putting.{Puts}
use Rattle.cs_manifest.proofs.output.words.put_names.Given as goal

abbrev pub invariant-loop-token : goal.invariant-loop-token
invariant-loop-token g l = Puts g.S.Sink (spaced (token_of l.file) (take l.token-index l.tokens)) l.initial.output l.output
