-- The begin mark comes first, and then the tokens by their numbers.
use Rattle.std.proofs.Common.{sym}
use Rattle.cs_goals.proofs.Remaining.{left_mark_first, left_mark_token}
use Rattle.cs_goals.proofs.goals.left_mark.Goals as goal

pub returns-then-given-eq0 : goal.returns-then-given-eq0
returns-then-given-eq0 c = sym (left_mark_first c.args.given c.if-given-eq0.true)

pub returns-else-given-eq0 : goal.returns-else-given-eq0
returns-else-given-eq0 c = sym (left_mark_token c.args.given c.if-given-eq0.false)
