-- The top of the stack gives way to its parts, so the nodes listed and those left are all, and fewer are left.
use Rattle.cs_pattern_parts.specs.Tree.Nodes.{nodes_of}
use Rattle.cs_pattern_parts.specs.Tree.Pattern.{regex}
use Rattle.cs_pattern_parts.proofs.OnTree.Listing.{less_left, one_more}
use Rattle.cs_pattern_parts.proofs.tree.nodes.list_nodes.Goals as goal

pub loop-node-smaller : goal.loop-node-smaller
loop-node-smaller c = less_left c.loop-node.pending.items c.pop.new.self.items c.open.new.pending.items c.in-Some.node c.in-Some.ensures.items c.in_ok-open.ensures

pub loop-node-preserved : goal.loop-node-preserved
loop-node-preserved c =
    one_more c.loop-node.pending.items c.pop.new.self.items c.open.new.pending.items c.in-Some.node c.in-Some.ensures.items c.in_ok-open.ensures
    c.loop-node.nodes.items c.push-in-Some.new.self.items (nodes_of (regex c.args.pattern.now)) c.loop-node.invariant c.in_ok-push-2.ensures.items
