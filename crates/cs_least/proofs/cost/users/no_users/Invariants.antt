use Rattle.cs_least.specs.Cost.Users.{HasNoUsers}
use Rattle.cs_least.proofs.cost.users.no_users.Given as goal

abbrev pub invariant-loop-number : goal.invariant-loop-number
invariant-loop-number l = HasNoUsers l._number l.users.items
