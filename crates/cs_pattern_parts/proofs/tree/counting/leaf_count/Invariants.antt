use Rattle.std.proofs.Common.{◌≡◌, take}
use Rattle.cs_pattern_parts.specs.Tree.Nodes.{all_own_leaves, values}
use Rattle.cs_pattern_parts.proofs.tree.counting.leaf_count.Given as goal

abbrev pub invariant-loop-node : goal.invariant-loop-node
invariant-loop-node l = l.count ≡ all_own_leaves (values (take l.node-index l.node-items))
