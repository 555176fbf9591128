-- The nodes left, made again upon the stack, give the pattern at each step.
use Rattle.std.proofs.Common.{[], ◌∷◌, map}
use Rattle.cs_pattern_parts.specs.Tree.Nodes.{values}
use Rattle.cs_pattern_parts.specs.Tree.Pattern.{regex}
use Rattle.cs_pattern_parts.proofs.OnTree.Listing.{copied_first, copied_more}
use Rattle.cs_pattern_parts.proofs.tree.copying.copy.Goals as goal

pub loop-node-init : goal.loop-node-init
loop-node-init c = copied_first c.new-stack.result.items (values c.in_ok-nodes.nodes.items) (regex c.args.pattern.now) c.new-stack.ensures.items c.in_ok-nodes.ensures

pub loop-node-preserved : goal.loop-node-preserved
loop-node-preserved c =
    copied_more c.loop-node.nodes.items c.pop.new.self.items c.in-Some.node (map regex c.loop-node.stack.items) (map regex c.copy_node.new.stack.items) (regex c.args.pattern.now ∷ [])
    c.loop-node.invariant c.in-Some.ensures.items c.in_ok-copy_node.ensures
