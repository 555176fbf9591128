-- Components are asked for only where there is a graph.
use Rattle.test_scanner.proofs.scanning.graph.first_nodes.Goals as goal

pub components-requires : goal.components-requires
components-requires c = c.is_graph.ensures.0 c.if-not-is_graph.false
