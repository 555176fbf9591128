use Rattle.std.proofs.Common.{◌≡◌, ◌-◌, ◌++◌, drop, reverse}
use Rattle.cs_goals.specs.Awaits.{awaits}
use Rattle.cs_goals.proofs.meeting.await_child.Given as goal

abbrev pub invariant-loop-at : goal.invariant-loop-at
invariant-loop-at l =
    reverse l.pending.items ≡ awaits (l.place - l.at) (drop l.at l.right) ++ reverse l.fn.pending.items
