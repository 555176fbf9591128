-- The tree of the kind stands at this symbol where that costs at most what a later place costs.
use Rattle.std.proofs.Common.{subst}
use Rattle.cs_pairs.specs.declared.kinds.kind.TreeKind.{TreeKind}
use Rattle.cs_pairs.specs.Kinds.KindCost.{IsKindCost}
use Rattle.cs_pairs.proofs.OnKinds.Placing.{not_at_most, place_taken, place_passed}
use Rattle.cs_pairs.proofs.kinds.roots.placed_over.Goals as goal

pub returns-then-at_most : goal.returns-then-at_most
returns-then-at_most c = λ xs swept.
    let v = c.args.kinds.now in
    let first = subst (λ (j : TreeKind). IsKindCost v j c.args.symbol c.told_by-before.result) c.before-2.ensures c.told_by-before.ensures in
    let others = subst (λ (j : TreeKind). IsKindCost v j c.args.symbol c.told_by-behind.result) c.behind.ensures c.told_by-behind.ensures in
    place_taken v c.args.rows.now.kind c.args.symbol c.args.index c.args.placed _ _ _ _ _ _ c.told_by-own.ensures first others c.plus-here.ensures c.plus-later.ensures c.plus-rest.ensures xs swept (c.at_most.ensures.0 c.if-at_most.true)

pub returns-else-at_most : goal.returns-else-at_most
returns-else-at_most c = λ xs swept.
    let v = c.args.kinds.now in
    let first = subst (λ (j : TreeKind). IsKindCost v j c.args.symbol c.told_by-before.result) c.before-2.ensures c.told_by-before.ensures in
    let others = subst (λ (j : TreeKind). IsKindCost v j c.args.symbol c.told_by-behind.result) c.behind.ensures c.told_by-behind.ensures in
    place_passed v c.args.rows.now.kind c.args.symbol c.args.index c.args.placed _ _ _ _ _ _ c.told_by-own.ensures first others c.plus-here.ensures c.plus-later.ensures c.plus-rest.ensures xs swept (not_at_most _ _ _ c.if-at_most.false c.at_most.ensures)
