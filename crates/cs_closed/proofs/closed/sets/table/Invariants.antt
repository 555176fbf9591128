use Rattle.std.proofs.Common.{◌≡◌, false, replicate}
use Rattle.cs_closed.proofs.closed.sets.table.Given as goal

abbrev pub invariant-loop-row : goal.invariant-loop-row
invariant-loop-row l = l.table.items ≡ replicate l._row (replicate l.last false)
