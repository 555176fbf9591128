use Rattle.std.proofs.Common.{drop, ◌↔◌}
use Rattle.cs_closed.specs.Closed.Closed.{IsFirstAmong}
use Rattle.cs_closed.proofs.closed.sets.Sets.begin_with.Given as goal

abbrev pub invariant-loop-symbol : goal.invariant-loop-symbol
invariant-loop-symbol l = IsFirstAmong l.self l.symbols l.token ↔ IsFirstAmong l.self (drop l.symbol-index l.symbols) l.token
