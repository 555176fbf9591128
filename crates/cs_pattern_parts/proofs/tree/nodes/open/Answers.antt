-- The parts of a join, an either or a many are put behind those that wait.
use Rattle.std.proofs.Common.{◌∙◌, ◌++◌, ap}
use Rattle.std.proofs.lemmas.Result.{on_ok_weaker}
use Rattle.cs_pattern_parts.specs.Tree.Nodes.{values}
use Rattle.cs_pattern_parts.proofs.OnTree.Listing.{join_opened, either_opened, many_opened, values_push}
use Rattle.cs_pattern_parts.proofs.tree.nodes.open.Goals as goal

pub returns-in-Join : goal.returns-in-Join
returns-in-Join c =
    let same = join_opened c.args.node.now c.in-Join.parts c.deref.result.now c.in-Join.is c.deref.ensures.value in
    on_ok_weaker c.push_all.result (λ h. h ∙ ap (λ t. values c.args.pending.now.items ++ t) same) c.push_all.ensures

pub returns-in-Either : goal.returns-in-Either
returns-in-Either c =
    let same = either_opened c.args.node.now c.in-Either.parts c.deref-in-Either.result.now c.in-Either.is c.deref-in-Either.ensures.value in
    on_ok_weaker c.push_all-in-Either.result (λ h. h ∙ ap (λ t. values c.args.pending.now.items ++ t) same) c.push_all-in-Either.ensures

pub returns-in_ok-push-in-Many : goal.returns-in_ok-push-in-Many
returns-in_ok-push-in-Many c =
    let same = many_opened c.args.node.now c.in-Many.part c.deref-in-Many.result.now c.in-Many.is c.deref-in-Many.ensures in
    ap values c.in_ok-push-in-Many.ensures.items
    ∙ values_push c.args.pending.now.items c.deref-in-Many.result
    ∙ ap (λ t. values c.args.pending.now.items ++ t) same
