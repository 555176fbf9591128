-- An order is asked for only where there is a graph.
use Rattle.test_scanner.proofs.scanning.graph.shown.Goals as goal

pub order-requires : goal.order-requires
order-requires c = c.is_graph.ensures.0 c.if-not-is_graph.false
