use Rattle.std.proofs.Common.{take}
use Rattle.cs_manifest.specs.Output.Words.{spaced}
use Rattle.cs_manifest.specs.Output.Names.{symbol_text}
use Rattle.cs_manifest.specs.Output.Putting.{Puts}
use Rattle.cs_manifest.proofs.writer.put_head.put_symbols.Given as goal

abbrev pub invariant-loop-symbol : goal.invariant-loop-symbol
invariant-loop-symbol g l = Puts g.S.Sink (spaced (symbol_text l.file) (take l.symbol-index l.symbols)) l.initial.output l.output
