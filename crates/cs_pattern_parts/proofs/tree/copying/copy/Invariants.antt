use Rattle.std.proofs.Common.{◌≡◌, [], ◌∷◌, length, map}
use Rattle.cs_pattern_parts.specs.Tree.Nodes.{values, with_nodes}
use Rattle.cs_pattern_parts.specs.Tree.Pattern.{regex}
use Rattle.cs_pattern_parts.proofs.tree.copying.copy.Given as goal

abbrev pub invariant-loop-node : goal.invariant-loop-node
invariant-loop-node l = with_nodes (map regex l.stack.items) (values l.nodes.items) ≡ regex l.pattern ∷ []

abbrev pub decreases-loop-node : goal.decreases-loop-node
decreases-loop-node l = length l.nodes.items
