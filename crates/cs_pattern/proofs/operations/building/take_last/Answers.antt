-- The stack is split as many patterns before its end as are taken, or at its start where it has fewer.
use Rattle.std.proofs.Common.{◌≡◌, ◌-◌, length, arith}
use Rattle.cs_pattern.proofs.OnOperations.Stacks.{taken, kept}
use Rattle.cs_pattern.proofs.operations.building.take_last.Goals as goal

pub returns-clause-taken : goal.returns-clause-taken
returns-clause-taken c = taken _ _ _ c.args.count c.in_ok-parts.ensures.tail (let e : c.saturating_sub-from.result ≡ length c.args.stack.now.items - c.args.count = omega arith in e)

pub returns-clause-left : goal.returns-clause-left
returns-clause-left c = kept _ _ _ c.args.count c.in_ok-parts.ensures.items (let e : c.saturating_sub-from.result ≡ length c.args.stack.now.items - c.args.count = omega arith in e)
