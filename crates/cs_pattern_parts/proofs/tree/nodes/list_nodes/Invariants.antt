use Rattle.std.proofs.Common.{◌≡◌, ◌++◌, length}
use Rattle.cs_pattern_parts.specs.Tree.Nodes.{nodes_in, nodes_of, values}
use Rattle.cs_pattern_parts.specs.Tree.Pattern.{regex}
use Rattle.cs_pattern_parts.proofs.tree.nodes.list_nodes.Given as goal

abbrev pub invariant-loop-node : goal.invariant-loop-node
invariant-loop-node l = values l.nodes.items ++ nodes_in (values l.pending.items) ≡ nodes_of (regex l.pattern)

abbrev pub decreases-loop-node : goal.decreases-loop-node
decreases-loop-node l = length (nodes_in (values l.pending.items))
