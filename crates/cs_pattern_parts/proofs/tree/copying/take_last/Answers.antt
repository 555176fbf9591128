-- The copies are the patterns from where the stack is split, and what is left stands before.
use Rattle.std.proofs.Common.{◌≡◌, ◌-◌, length, arith}
use Rattle.cs_pattern_parts.proofs.OnTree.Listing.{taken, kept}
use Rattle.cs_pattern_parts.proofs.tree.copying.take_last.Goals as goal

pub returns-clause-taken : goal.returns-clause-taken
returns-clause-taken c = taken _ _ _ c.args.count c.in_ok-parts.ensures.tail (let e : c.saturating_sub-from.result ≡ length c.args.stack.now.items - c.args.count = omega arith in e)

pub returns-clause-left : goal.returns-clause-left
returns-clause-left c = kept _ _ _ c.args.count c.in_ok-parts.ensures.items (let e : c.saturating_sub-from.result ≡ length c.args.stack.now.items - c.args.count = omega arith in e)
