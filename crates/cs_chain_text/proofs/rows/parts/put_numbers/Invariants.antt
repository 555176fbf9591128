use Rattle.std.proofs.Common.{take, decimal}
use Rattle.cs_manifest.specs.Output.Words.{spaced}
use Rattle.cs_manifest.specs.Output.Putting.{Puts}
use Rattle.cs_chain_text.proofs.rows.parts.put_numbers.Given as goal

abbrev pub invariant-loop-number : goal.invariant-loop-number
invariant-loop-number g l = Puts g.S.Sink (spaced decimal (take l.number-index l.numbers)) l.initial.output l.output
