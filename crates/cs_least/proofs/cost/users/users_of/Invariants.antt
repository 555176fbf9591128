use Rattle.cs_least.proofs.OnCost.UserLists.{UserTableBelow}
use Rattle.cs_least.proofs.cost.users.users_of.Given as goal

abbrev pub invariant-loop-place : goal.invariant-loop-place
invariant-loop-place l = UserTableBelow l.grammar l.users.items l.place
