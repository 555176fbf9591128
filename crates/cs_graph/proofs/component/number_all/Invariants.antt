use Rattle.std.proofs.Common.{take}
use Rattle.cs_graph.specs.Groups.{AreNumbered}
use Rattle.cs_graph.proofs.component.number_all.Given as goal

abbrev pub invariant-loop-node : goal.invariant-loop-node
invariant-loop-node l = AreNumbered l.initial.states (take l.node-index l.nodes) l.number l.states
