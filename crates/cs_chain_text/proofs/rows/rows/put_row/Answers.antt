-- The head stands in front, and behind it what the cost says: no tree, a large one, or the tree's lines.
use Rattle.std.proofs.Common.{ℕ, refl, subst}
use Rattle.cs_least.specs.declared.cost.cost.Cost.TheVariants.{Never, Large, Least}
use Rattle.cs_manifest.proofs.OnOutput.Pieces.{spelled, then}
use Rattle.cs_manifest.specs.Output.Putting.{Puts}
use Rattle.cs_chain_text.specs.Rows.Rows.{tree_parts}
use Rattle.cs_chain_text.proofs.OnRows.Rows.{head_is, row_told, tree_is}
use Rattle.cs_chain_text.proofs.rows.rows.put_row.Goals as goal

pub returns-in-Never : goal.returns-in-Never
returns-in-Never g c =
    let told = c.args.cores.now in
    let row = c.args.row.now in
    let front = then (then (then c.put.ensures c.put_numeral.ensures) c.put_piece.ensures) c.put_piece-2.ensures in
    let words = spelled _ (head_is told row c.args.number.now c.requires) front in
    spelled _ (row_told told row c.args.number.now Never _ c.in-Never.is refl) (then words c.put-in-Never.ensures)

pub returns-in-Large : goal.returns-in-Large
returns-in-Large g c =
    let told = c.args.cores.now in
    let row = c.args.row.now in
    let front = then (then (then c.put.ensures c.put_numeral.ensures) c.put_piece.ensures) c.put_piece-2.ensures in
    let words = spelled _ (head_is told row c.args.number.now c.requires) front in
    spelled _ (row_told told row c.args.number.now Large _ c.in-Large.is refl) (then words c.put-in-Large.ensures)

pub returns-in-Least : goal.returns-in-Least
returns-in-Least g c =
    let told = c.args.cores.now in
    let row = c.args.row.now in
    let front = then (then (then c.put.ensures c.put_numeral.ensures) c.put_piece.ensures) c.put_piece-2.ensures in
    let words = spelled _ (head_is told row c.args.number.now c.requires) front in
    let tree = subst (λ (n : ℕ). Puts g.S.Sink (tree_parts row n) c.put_piece-2.new.self c.put_tree.new.output) c.set_numeral.ensures c.put_tree.ensures in
    spelled _ (row_told told row c.args.number.now (Least c.in-Least.size) _ c.in-Least.is (tree_is told row c.in-Least.size c.requires)) (then words tree)
