use Rattle.std.proofs.Common.{take, ◌↔◌}
use Rattle.cs_closed.specs.Closed.Closed.{IsLastAmong}
use Rattle.cs_closed.proofs.closed.sets.Sets.end_with.Given as goal

abbrev pub invariant-loop-place : goal.invariant-loop-place
invariant-loop-place l = IsLastAmong l.self l.symbols l.token ↔ IsLastAmong l.self (take l.place l.symbols) l.token
