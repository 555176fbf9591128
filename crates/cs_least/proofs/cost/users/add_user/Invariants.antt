use Rattle.cs_least.proofs.OnCost.UserLists.{AddsRest}
use Rattle.cs_least.proofs.cost.users.add_user.Given as goal

abbrev pub invariant-loop-symbol : goal.invariant-loop-symbol
invariant-loop-symbol l = AddsRest l.rule l.right l.initial.users l.users l.symbol-index
