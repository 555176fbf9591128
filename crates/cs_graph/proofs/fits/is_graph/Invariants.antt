use Rattle.std.proofs.Common.{ℕ, ◌<◌, length}
use Rattle.cs_graph.specs.Graph.{Edge}
use Rattle.cs_graph.proofs.fits.is_graph.Given as goal

abbrev pub invariant-loop-successors : goal.invariant-loop-successors
invariant-loop-successors l = (from to : ℕ) → from < l.successors-index → Edge l.graph from to → to < length l.graph
