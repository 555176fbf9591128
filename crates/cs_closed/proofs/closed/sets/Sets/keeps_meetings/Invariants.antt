use Rattle.std.proofs.Common.{drop, ◌↔◌}
use Rattle.std.specs.Prelude.{IsTrue}
use Rattle.cs_closed.specs.Closed.Closed.{IsFirstAmong}
use Rattle.cs_closed.specs.Closed.Keeping.{KeepsMeetings}
use Rattle.cs_closed.proofs.closed.sets.Sets.keeps_meetings.Given as goal

abbrev pub invariant-loop-place : goal.invariant-loop-place
invariant-loop-place l = record {
  stands : IsTrue l.stands ↔ IsFirstAmong l.self (drop l.place l.symbols) l.token;
  kept : KeepsMeetings l.self l.token (drop l.place l.symbols);
}
