-- One row more is counted under the number that comes next, and its lines are put.
use Rattle.std.proofs.Common.{◌≡◌, ◌+◌, ap, ◌∙◌, arith, take}
use Rattle.cs_manifest.proofs.OnOutput.Pieces.{nothing, spelled, then}
use Rattle.cs_chain_text.specs.declared.entries.tally.Tally.{Tally}
use Rattle.cs_chain_text.specs.Progress.{lines_from}
use Rattle.cs_chain_text.specs.Rows.Rows.{IsRow, row_entries, row_entry, row_lines}
use Rattle.cs_manifest.proofs.OnOutput.Numbered.{at_place}
use Rattle.cs_chain_text.proofs.OnEntries.Counting.{counted_more, counted_none, lines_more}
use Rattle.cs_chain_text.proofs.OnRows.Rows.{counts_one, counts_same, entry_at, room, within}
use Rattle.cs_chain_text.proofs.rows.rows.put_rows.Goals as goal

pub loop-row-init : goal.loop-row-init
loop-row-init g c = record { lines = nothing _; counted = counted_none c.args.tally.now; number = c.new-number.ensures }

pub count_cost-requires : goal.count_cost-requires
count_cost-requires g c = room c.args.rows.now c.loop-row.row-index c.args.tally.now c.loop-row.tally c.loop-row-test.true c.requires.few c.loop-row.invariant.counted

pub advance-requires : goal.advance-requires
advance-requires g c =
    let free = room c.args.rows.now c.loop-row.row-index c.args.tally.now c.loop-row.tally c.loop-row-test.true c.requires.few c.loop-row.invariant.counted in
    omega (arith, c.loop-row.invariant.number, free.goals)

pub put_row-requires : goal.put_row-requires
put_row-requires g c = at_place (IsRow c.args.cores.now) c.args.rows.now c.loop-row.row-index c.row-item.result c.loop-row-test.true c.row-item.is c.requires.rows

pub loop-row-preserved : goal.loop-row-preserved
loop-row-preserved g c =
    let i = c.loop-row.row-index in
    let rows = c.args.rows.now in
    let es = row_entries rows in
    let row = c.row-item.result in
    let e = row_entry row in
    let here = entry_at rows i row c.loop-row-test.true c.row-item.is in
    let inside = within rows i c.loop-row-test.true in
    let counts = c.count_cost.ensures ∙ counts_same c.loop-row.tally row.cost _ in
    let counted = counted_more es i e c.args.tally.now c.loop-row.tally c.count_cost.new.self inside here c.loop-row.invariant.counted counts in
    let one : c.count_cost.new.self.goals ≡ c.loop-row.tally.goals + 1 = ap (λ (t : Tally). t.goals) c.count_cost.ensures ∙ counts_one c.loop-row.tally row.cost in
    let number : c.advance.new.self ≡ c.count_cost.new.self.goals = omega (arith, c.advance.ensures, c.loop-row.invariant.number, one) in
    let lines = lines_more c.args.cores.now.file c.args.tally.now.goals es i e c.advance.new.self inside here (number ∙ counted.goals) in
    record { lines = spelled _ lines (then {first = lines_from c.args.cores.now.file c.args.tally.now.goals (take i es)} {second = row_lines c.args.cores.now c.advance.new.self row} c.loop-row.invariant.lines c.put_row.ensures); counted = counted; number = number }
