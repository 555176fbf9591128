use Rattle.std.proofs.Common.{[]}
use Rattle.cs_least.specs.Ways.Rows.{AreRows}
use Rattle.cs_least.proofs.ways.steps.empty_rows.Given as goal

abbrev pub invariant-loop : goal.invariant-loop
invariant-loop l = AreRows l.counter [] l.rows.items
