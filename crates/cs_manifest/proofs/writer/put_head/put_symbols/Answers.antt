-- One symbol more, behind a space.
use Rattle.cs_manifest.specs.Output.Names.{symbol_text}
use Rattle.cs_manifest.proofs.OnOutput.Pieces.{nothing, spaced_more}
use Rattle.cs_manifest.proofs.writer.put_head.put_symbols.Goals as goal

pub loop-symbol-init : goal.loop-symbol-init
loop-symbol-init g c = nothing _

pub loop-symbol-preserved : goal.loop-symbol-preserved
loop-symbol-preserved g c = spaced_more (symbol_text c.args.file.now) c.args.symbols.now c.loop-symbol.symbol-index _ c.loop-symbol-test.true c.loop-symbol.invariant c.put.ensures c.put_symbol.ensures
