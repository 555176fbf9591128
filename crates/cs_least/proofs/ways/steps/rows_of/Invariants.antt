use Rattle.std.proofs.Common.{take}
use Rattle.cs_least.specs.Ways.Rows.{AreRows}
use Rattle.cs_least.proofs.ways.steps.rows_of.Given as goal

abbrev pub invariant-loop-step : goal.invariant-loop-step
invariant-loop-step l = AreRows l.nodes (take l.step-index l.list) l.rows.items
