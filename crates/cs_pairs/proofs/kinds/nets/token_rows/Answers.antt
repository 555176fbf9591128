-- One token more has its row.
use Rattle.std.proofs.Common.{◌+◌, sym, subst}
use Rattle.cs_pairs.specs.Kinds.Sides.{kind_on}
use Rattle.cs_pairs.specs.Kinds.Tables.{AreCostRows}
use Rattle.cs_pairs.proofs.OnKinds.KindCosts.{cost_rows_more}
use Rattle.cs_pairs.proofs.kinds.nets.token_rows.Goals as goal

pub loop-place-preserved : goal.loop-place-preserved
loop-place-preserved c =
    let v = c.args.costs.now in
    let n = c.loop-place.place in
    subst (AreCostRows v.weights v.grammar (kind_on c.args.net.now.side) (n + 1)) (sym c.in_ok-push.ensures.items)
    (cost_rows_more v.weights v.grammar (kind_on c.args.net.now.side) n _ _ c.loop-place.invariant c.in_ok-token_row.ensures)
