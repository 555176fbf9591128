use Rattle.std.proofs.Common.{take}
use Rattle.cs_goals.proofs.Followed.{Looked}
use Rattle.cs_goals.proofs.neighbours.has_pair.Given as goal

abbrev pub invariant-loop-token : goal.invariant-loop-token
invariant-loop-token l = Looked l.left l.right (take l.token-index l.tokens) l.last
