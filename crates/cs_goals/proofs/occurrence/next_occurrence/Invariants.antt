use Rattle.std.proofs.Common.{◌≡◌}
use Rattle.cs_goals.specs.Rest.{contexts_left}
use Rattle.cs_goals.proofs.occurrence.next_occurrence.Given as goal

abbrev pub invariant-loop-outer : goal.invariant-loop-outer
invariant-loop-outer l =
    contexts_left l.grammar l.fn.from.outer l.fn.from.place l.fn.from.inner
    ≡ contexts_left l.grammar l.outer l.start.place l.start.inner
