-- One node more has the number.
use Rattle.std.proofs.Common.{arith}
use Rattle.std.proofs.lemmas.List.{take_more}
use Rattle.cs_graph.proofs.Closing.{none_numbered, one_numbered}
use Rattle.cs_graph.proofs.component.number_all.Goals as goal

pub loop-node-init : goal.loop-node-init
loop-node-init c = none_numbered c.args.states.now c.args.number

pub loop-node-preserved : goal.loop-node-preserved
loop-node-preserved c =
    rw (take_more c.args.nodes.now c.loop-node.node-index 0 (omega arith)) (one_numbered _ _ _ _ _ c.loop-node.invariant (let lt = c.requires c.loop-node.node-index 0 (omega arith) in omega arith))
