use Rattle.std.proofs.Common.{ℕ}
use Rattle.cs_least.specs.Cost.Searching.{IsReady, to_do}
use Rattle.cs_least.proofs.cost.worklist.settle_all.Given as goal

abbrev pub invariant-loop-candidate : goal.invariant-loop-candidate
invariant-loop-candidate l = (last : ℕ) × IsReady l.rules l.work last

abbrev pub decreases-loop-candidate : goal.decreases-loop-candidate
decreases-loop-candidate l = to_do l.work
