use Rattle.std.proofs.Common.{ℕ, ◌<◌, ◌≤◌}
use Rattle.cs_closed.specs.Closed.Keeping.{KeepsTokenIn}
use Rattle.cs_closed.proofs.closed.sets.Sets.are_closed.Given as goal

abbrev pub invariant-loop-place : goal.invariant-loop-place
invariant-loop-place l = (t : ℕ) → 0 < t → t ≤ l.place → KeepsTokenIn l.self l.grammar.rules l.grammar.start t
