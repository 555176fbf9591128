use Rattle.cs_goals.specs.Goals.{token_marks}
use Rattle.cs_verdicts.specs.Closed.Closed.{AreThose}
use Rattle.cs_pairs.specs.Pairs.Pairs.{IsAdjacent}
use Rattle.cs_verdicts.proofs.closed.collecting.tokens_next_to.Given as goal

abbrev pub invariant-loop-place : goal.invariant-loop-place
invariant-loop-place l = AreThose (IsAdjacent l.tables.grammar l.mark) (token_marks l.place) l.list.items
