-- One nonterminal's name more, behind a space.
use Rattle.cs_manifest.specs.Output.Names.{nonterminal_of}
use Rattle.cs_manifest.proofs.OnOutput.Pieces.{nothing, spaced_more}
use Rattle.cs_manifest.proofs.writer.put_closed.put_nonterminals.Goals as goal

pub loop-nonterminal-init : goal.loop-nonterminal-init
loop-nonterminal-init g c = nothing _

pub loop-nonterminal-preserved : goal.loop-nonterminal-preserved
loop-nonterminal-preserved g c = spaced_more (nonterminal_of c.args.file.now) c.args.nonterminals.now c.loop-nonterminal.nonterminal-index _ c.loop-nonterminal-test.true c.loop-nonterminal.invariant c.put.ensures c.put_nonterminal.ensures
