-- Steps turned round: each leads back from where it led.
use Rattle.std.specs.Prelude.{map}
use Rattle.cs_least.specs.declared.ways.step.Step.{Step}
use Rattle.cs_least.specs.Ways.Ways.{Net, net_of}

abbrev pub turned_step : Step → Step
turned_step s = record { from = s.to; to = s.from; cost = s.cost }

-- the same nodes, and each step turned round, in the same order
abbrev pub turned : Net → Net
turned net = net_of net.nodes (map turned_step net.steps)
