-- The items before are no undefined name; this one is, or none is.
use Rattle.cs_yacc.specs.Reading.Meaning.{is_undefined}
use Rattle.cs_yacc.proofs.OnReading.Loops.{first_more, first_found, first_none, no_item}
use Rattle.cs_yacc.proofs.reading.fault.first_undefined.Goals as goal

pub loop-placed-preserved : goal.loop-placed-preserved
loop-placed-preserved c =
    first_more (λ i _. is_undefined c.args.declared.now c.args.lefts.now i) c.args.items.now _ c.loop-placed.placed-index no_item _ c.loop-placed.invariant c.loop-placed-test.true c.is_undefined.ensures c.if-is_undefined.false

pub returns-then-is_undefined : goal.returns-then-is_undefined
returns-then-is_undefined c =
    first_found (λ i _. is_undefined c.args.declared.now c.args.lefts.now i) c.args.items.now _ c.loop-placed.placed-index no_item _ c.loop-placed.invariant c.loop-placed-test.true c.is_undefined.ensures c.if-is_undefined.true

pub returns : goal.returns
returns c = first_none (λ i _. is_undefined c.args.declared.now c.args.lefts.now i) c.args.items.now _ c.loop-placed.placed-index c.loop-placed.invariant c.loop-placed-test.false
