-- Node by node, each adding its own leaves, never more than the pattern has.
use Rattle.std.proofs.Common.{Bor, ◌∙◌, ◌+◌, ap, arith}
use Rattle.std.proofs.lemmas.List.{take_all}
use Rattle.cs_pattern_parts.specs.declared.tree.pattern.Pattern.{Pattern}
use Rattle.cs_pattern_parts.specs.Tree.Nodes.{own_leaves, all_own_leaves, values}
use Rattle.cs_pattern_parts.specs.Tree.Pattern.{regex}
use Rattle.cs_pattern_parts.proofs.OnTree.Listing.{all_found, few_leaves, next_leaves}
use Rattle.cs_pattern_parts.proofs.tree.counting.leaf_count.Goals as goal

pub overflow_add-count : goal.overflow_add-count
overflow_add-count c =
    let lt = c.loop-node-test.true in
    let next = next_leaves c.deref-node-items.result.now c.loop-node.node-index c.node-item.result (omega (arith, lt)) in
    let same = ap (λ (b : Bor Pattern). own_leaves (regex b.now)) c.node-item.is in
    let few = few_leaves (regex c.args.pattern.now) c.deref-node-items.result.now (ap values c.deref-node-items.ensures.value ∙ c.in_ok-list_nodes.ensures) (c.loop-node.node-index + 1) in
    let most = c.requires in
    let so_far = c.loop-node.invariant in
    let this = c.own_leaves.ensures in
    omega (arith, next, same, few, most, so_far, this)

pub loop-node-preserved : goal.loop-node-preserved
loop-node-preserved c =
    let lt = c.loop-node-test.true in
    let next = next_leaves c.deref-node-items.result.now c.loop-node.node-index c.node-item.result (omega (arith, lt)) in
    let same = ap (λ (b : Bor Pattern). own_leaves (regex b.now)) c.node-item.is in
    let so_far = c.loop-node.invariant in
    let this = c.own_leaves.ensures in
    omega (arith, next, same, so_far, this)

pub returns : goal.returns
returns c =
    let all = take_all c.loop-node.node-index c.deref-node-items.result.now (let ge = c.loop-node-test.false in omega (arith, ge)) in
    let found = all_found (regex c.args.pattern.now) c.deref-node-items.result.now (ap values c.deref-node-items.ensures.value ∙ c.in_ok-list_nodes.ensures) in
    c.loop-node.invariant ∙ (ap (λ t. all_own_leaves (values t)) all ∙ found)
