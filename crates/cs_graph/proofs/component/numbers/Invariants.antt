use Rattle.std.proofs.Common.{◌≡◌, take, map}
use Rattle.cs_graph.specs.Groups.{number}
use Rattle.cs_graph.proofs.component.numbers.Given as goal

abbrev pub invariant-loop-state : goal.invariant-loop-state
invariant-loop-state l = l.numbers.items ≡ map number (take l.state-index l.states)
