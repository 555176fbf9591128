-- When each node is seen and nothing is on the path, all stand in the order.
use Rattle.std.proofs.Common.{List, arith, subst}
use Rattle.cs_graph.specs.declared.ordering.Open.{Open}
use Rattle.cs_graph.specs.Walk.{IsWalk}
use Rattle.cs_graph.proofs.Walking.{all_walked}
use Rattle.cs_graph.proofs.ordering.order.Goals as goal

pub returns : goal.returns
returns c =
    let g = c.args.graph.now in
    let w = c.loop-node.walk in
    let P : List Open → Type 0 = λ path. IsWalk g w.ready.items w.seen.items path w.order.items in
    all_walked g w.ready.items w.seen.items w.order.items (subst P c.loop-node.invariant.none c.loop-node.invariant.walk) (λ i lt. c.loop-node.invariant.seen i (omega arith))
