-- Measure by measure those before are within the limits, so the first that passes one is the definition refused.
use Rattle.std.proofs.Common.{◌<◌, length, sym, arith}
use Rattle.std.proofs.lemmas.Option.{slice_get-get_or, slice_get_within}
use Rattle.cs_pattern.proofs.OnText.Staged.{too_large_at, limits_more}
use Rattle.cs_pattern.proofs.text.checking.check_limits.Goals as goal

pub returns-in-Some-clause-refused : goal.returns-in-Some-clause-refused
returns-in-Some-clause-refused c = λ ds ms trees names no_cycle.
    let lt : c.loop-index.index < length c.args.measures.now = omega arith in
    rw c.fault_at.ensures
    (too_large_at ds c.args.measures.now c.loop-index.index _ c.in-Some.fault ms trees names no_cycle (slice_get-get_or c.args.measures.now c.loop-index.index _ lt) (sym c.in-Some.ensures) (λ i d tree less is t. c.loop-index.invariant ds ms trees i d tree less is t))

pub loop-index-preserved : goal.loop-index-preserved
loop-index-preserved c = λ ds ms trees.
    let lt : c.loop-index.index < length c.args.measures.now = omega arith in
    limits_more ds c.args.measures.now c.loop-index.index _ ms trees (slice_get-get_or c.args.measures.now c.loop-index.index _ lt) (sym c.in_default.ensures) (c.loop-index.invariant ds ms trees)

pub returns-clause-within : goal.returns-clause-within
returns-clause-within c = λ ds ms trees i d tree is t. c.loop-index.invariant ds ms trees i d tree (let lt = slice_get_within ds i d is in let size = ms.count in omega arith) is t
