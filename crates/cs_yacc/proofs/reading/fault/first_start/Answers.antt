-- The items before are no `%start`; this one is, or none is.
use Rattle.cs_yacc.specs.Reading.Meaning.{is_start}
use Rattle.cs_yacc.proofs.OnReading.Loops.{first_more, first_found, first_none, no_item}
use Rattle.cs_yacc.proofs.reading.fault.first_start.Goals as goal

pub loop-placed-preserved : goal.loop-placed-preserved
loop-placed-preserved c = first_more (λ i _. is_start i) c.args.items.now _ c.loop-placed.placed-index no_item _ c.loop-placed.invariant c.loop-placed-test.true c.is_start.ensures c.if-is_start.false

pub returns-then-is_start : goal.returns-then-is_start
returns-then-is_start c = first_found (λ i _. is_start i) c.args.items.now _ c.loop-placed.placed-index no_item _ c.loop-placed.invariant c.loop-placed-test.true c.is_start.ensures c.if-is_start.true

pub returns : goal.returns
returns c = first_none (λ i _. is_start i) c.args.items.now _ c.loop-placed.placed-index c.loop-placed.invariant c.loop-placed-test.false
