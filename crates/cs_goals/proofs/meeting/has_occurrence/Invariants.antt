use Rattle.std.proofs.Common.{drop, reverse}
use Rattle.cs_goals.proofs.Awaiting.{Waits}
use Rattle.cs_goals.proofs.meeting.has_occurrence.Given as goal

abbrev pub invariant-loop-number : goal.invariant-loop-number
invariant-loop-number l =
    Waits l.grammar l.number-items (drop l.number-index l.number-items) (reverse l.pending.items) l.occurrence.outer l.occurrence.place l.occurrence.inner
