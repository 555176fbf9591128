-- Lines lead on in one way, so a fault on it, or the end of the bytes, leaves a section that never ends.
use Rattle.std.proofs.Common.{[], arith}
use Rattle.cs_lex.specs.Layout.Steps.{here}
use Rattle.cs_lex.proofs.OnLayout.Ending.{ends_or_stops, passed_on, defined_on, fault_never_ends, fault_stops, out_never_ends, out_stops}
use Rattle.cs_lex.proofs.layout.settled.definitions_end.Goals as goal

pub loop-at-init : goal.loop-at-init
loop-at-init c = record { lines = here; within = omega arith }

pub loop-at-preserved-in-Ok-Passed : goal.loop-at-preserved-in-Ok-Passed
loop-at-preserved-in-Ok-Passed c =
    let h = rw c.in-Ok-Passed.field-0-is at c.in-Ok-Passed.ensures in
    record { lines = passed_on c.args.bytes.now c.loop-at.at c.in-Ok-Passed.to c.loop-at.invariant.lines h.1.0 h.0; within = h.1.1 }

pub loop-at-preserved : goal.loop-at-preserved
loop-at-preserved c =
    let h = rw c.in-Ok-Definition.field-0-is at c.in-Ok-Definition.ensures in
    record { lines = defined_on c.args.bytes.now c.loop-at.at c.in-Ok-Definition.to c.in-Ok-Definition.field-0-0 c.loop-at.invariant.lines h.0 h.2; within = h.3.1 }

pub returns-in-Ok-End-clause-end : goal.returns-in-Ok-End-clause-end
returns-in-Ok-End-clause-end c =
    let h = rw c.in-Ok-End.field-0-is at c.in-Ok-End.ensures in
    ends_or_stops c.args.bytes.now c.in-Ok-End.to (record { at = c.loop-at.at; lines = c.loop-at.invariant.lines; ends = h.0; behind_is = h.1 })

pub returns-in-Err-clause-never : goal.returns-in-Err-clause-never
returns-in-Err-clause-never c = fault_never_ends c.args.bytes.now c.loop-at.at c.in-Err.field-0 c.loop-at.invariant.lines (c.in-Err.ensures [])

pub returns-in-Err-clause-stop : goal.returns-in-Err-clause-stop
returns-in-Err-clause-stop c = fault_stops c.args.bytes.now c.loop-at.at c.in-Err.field-0 c.loop-at.invariant.lines c.in-Err.ensures

pub returns-clause-never : goal.returns-clause-never
returns-clause-never c = out_never_ends c.args.bytes.now c.loop-at.at c.loop-at.invariant.lines c.loop-at-test.false

pub returns-clause-stop : goal.returns-clause-stop
returns-clause-stop c = out_stops c.args.bytes.now c.loop-at.at c.loop-at.invariant.lines c.loop-at-test.false
