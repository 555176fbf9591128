-- What a node reaches stands before it in the order, where each node stands once.
use Rattle.cs_graph.proofs.Acyclic.{no_cycle}
use Rattle.cs_graph.proofs.laws.ordered_without_cycle.Goals as goal

pub returns : goal.returns
returns c = λ graph order o cycle. no_cycle graph order cycle.0 o cycle.1
