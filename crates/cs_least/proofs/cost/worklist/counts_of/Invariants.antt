use Rattle.cs_least.proofs.OnCost.Settling.{CountsBelow}
use Rattle.cs_least.proofs.cost.worklist.counts_of.Given as goal

abbrev pub invariant-loop-rule : goal.invariant-loop-rule
invariant-loop-rule l = CountsBelow l.grammar l.counts.items l.rule-index
