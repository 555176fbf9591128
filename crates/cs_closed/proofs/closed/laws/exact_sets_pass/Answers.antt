-- Exact sets hold just what trees show, which rules keep, and a goal that such sets allow is met by a tree.
use Rattle.cs_closed.proofs.OnClosed.Exact.{exact_closed, exact_exclude}
use Rattle.cs_closed.proofs.closed.laws.exact_sets_pass.Goals as goal

pub returns-clause-closed : goal.returns-clause-closed
returns-clause-closed c g s exact = exact_closed g s exact

pub returns-clause-exclude : goal.returns-clause-exclude
returns-clause-exclude c g s k exact is none = exact_exclude g s exact k is none
