-- A node of the order takes its weight from those that aren't marked, and is marked once.
use Rattle.std.proofs.Common.{arith}
use Rattle.cs_graph.proofs.Weights.{weighed_once}
use Rattle.cs_graph.proofs.laws.weighed_once.Goals as goal

pub returns : goal.returns
returns c = λ graph order o weights size. weighed_once order weights (λ i h. let lt = o.within i h in omega arith) o.once
