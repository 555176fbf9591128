use Rattle.std.proofs.Common.{take}
use Rattle.std.specs.Prelude.{All}
use Rattle.cs_closed.specs.Closed.Keeping.{KeepsToken}
use Rattle.cs_closed.proofs.closed.sets.Sets.keep_token.Given as goal

abbrev pub invariant-loop-rule : goal.invariant-loop-rule
invariant-loop-rule l = All (KeepsToken l.self l.token) (take l.rule-index l.rules)
