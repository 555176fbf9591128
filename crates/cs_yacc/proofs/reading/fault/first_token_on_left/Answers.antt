-- The items before are no declared left side; this one is, or none is.
use Rattle.cs_yacc.specs.Reading.Meaning.{is_token_on_left}
use Rattle.cs_yacc.proofs.OnReading.Loops.{passes_not, passes, first_none}
use Rattle.cs_yacc.proofs.reading.fault.first_token_on_left.Goals as goal

pub loop-index-preserved : goal.loop-index-preserved
loop-index-preserved c = passes_not (is_token_on_left c.args.declared.now) c.args.items.now _ c.loop-index.index _ _ c.loop-index.invariant c.loop-index-test.true c.behind.ensures c.is_token_on_left.ensures c.if-is_token_on_left.false

pub returns-then-is_token_on_left : goal.returns-then-is_token_on_left
returns-then-is_token_on_left c = passes (is_token_on_left c.args.declared.now) c.args.items.now _ c.loop-index.index _ _ c.loop-index.invariant c.loop-index-test.true c.behind.ensures c.is_token_on_left.ensures c.if-is_token_on_left.true

pub returns : goal.returns
returns c = first_none (is_token_on_left c.args.declared.now) c.args.items.now _ c.loop-index.index c.loop-index.invariant c.loop-index-test.false
