use Rattle.cs_least.proofs.OnWays.FirstTight.{FirstsSoFar}
use Rattle.cs_least.proofs.ways.firsts.first_steps.Given as goal

abbrev pub invariant-loop-place : goal.invariant-loop-place
invariant-loop-place l = FirstsSoFar l.steps.steps l.table l.firsts.items l.place
