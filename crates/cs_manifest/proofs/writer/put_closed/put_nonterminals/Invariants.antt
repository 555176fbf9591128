use Rattle.std.proofs.Common.{take}
use Rattle.cs_manifest.specs.Output.Words.{spaced}
use Rattle.cs_manifest.specs.Output.Names.{nonterminal_of}
use Rattle.cs_manifest.specs.Output.Putting.{Puts}
use Rattle.cs_manifest.proofs.writer.put_closed.put_nonterminals.Given as goal

abbrev pub invariant-loop-nonterminal : goal.invariant-loop-nonterminal
invariant-loop-nonterminal g l = Puts g.S.Sink (spaced (nonterminal_of l.file) (take l.nonterminal-index l.nonterminals)) l.initial.output l.output
