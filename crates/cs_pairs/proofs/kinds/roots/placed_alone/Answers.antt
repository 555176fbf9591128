-- Trees of the one symbol that are of the kind are trees of it alone.
use Rattle.std.proofs.Common.{subst}
use Rattle.cs_pairs.specs.declared.kinds.kind.TreeKind.{TreeKind}
use Rattle.cs_pairs.specs.Kinds.KindCost.{IsKindCost}
use Rattle.cs_pairs.proofs.OnKinds.Alone.{alone}
use Rattle.cs_pairs.proofs.kinds.roots.placed_alone.Goals as goal

pub returns : goal.returns
returns c =
    let v = c.args.kinds.now in
    let others = subst (λ (j : TreeKind). IsKindCost v j c.args.symbol c.told_by-2.result) c.behind.ensures c.told_by-2.ensures in
    alone v c.args.rows.now.kind c.args.symbol _ _ c.told_by.ensures others
