use Rattle.cs_least.proofs.OnCost.FirstRules.{FirstsSoFar}
use Rattle.cs_least.proofs.cost.trees.first_rules.Given as goal

abbrev pub invariant-loop-place : goal.invariant-loop-place
invariant-loop-place l = FirstsSoFar l.weights l.grammar l.table l.firsts.items l.place
