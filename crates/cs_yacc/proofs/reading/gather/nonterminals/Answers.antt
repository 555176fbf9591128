-- Each item that is a left side is added, if it is missing.
use Rattle.cs_yacc.specs.Reading.Meaning.{left_at}
use Rattle.cs_yacc.proofs.OnReading.Loops.{gather_step, gather_ends}
use Rattle.cs_yacc.proofs.reading.gather.nonterminals.Goals as goal

pub loop-index-preserved : goal.loop-index-preserved
loop-index-preserved c = gather_step left_at c.args.items.now c.loop-index.index _ _ _ _ _ _ c.loop-index.invariant c.loop-index-test.true c.behind.ensures c.left_at.ensures c.in_ok-add_some.ensures

pub returns : goal.returns
returns c = gather_ends left_at c.args.items.now c.loop-index.index _ _ c.loop-index.invariant c.loop-index-test.false
