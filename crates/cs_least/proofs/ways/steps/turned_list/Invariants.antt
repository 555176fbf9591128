use Rattle.std.proofs.Common.{◌≡◌, map, take}
use Rattle.cs_least.specs.Ways.Turned.{turned_step}
use Rattle.cs_least.proofs.ways.steps.turned_list.Given as goal

abbrev pub invariant-loop-step : goal.invariant-loop-step
invariant-loop-step l = l.turned.items ≡ map turned_step (take l.step-index l.list)
