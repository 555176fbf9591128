-- Rows that await the token, and fronts that begin with it, give all that follows from it.
use Rattle.std.proofs.Common.{◌≡◌, ℕ, ◌-◌, ◌<◌, ◌≤◌, length, get_or, List, Some, refl, sym, subst, arith}
use Rattle.std.specs.Prelude.{All, slice_get}
use Rattle.std.proofs.lemmas.Option.{slice_get_read, slice_get-get_or}
use Rattle.cs_member.specs.declared.chart.chart.Row.{Row}
use Rattle.cs_member.specs.declared.tables.fronts.Front.{Front}
use Rattle.cs_member.specs.Tables.Item.{IsItem}
use Rattle.cs_member.specs.Chart.Now.{ArePut}
use Rattle.cs_member.specs.Chart.Chart.{IsPosition, IsRow, OfRows, OfFronts, OfScan}
use Rattle.cs_member.proofs.OnChart.Following.{scan_puts, scan_before, before_follow}
use Rattle.cs_member.proofs.chart.chart.scan.Goals as goal
use Rattle.cs_member.proofs.chart.chart.scan.Goals.{After-index, After-index-chart-last}

-- the last position of the chart
last : (c : After-index-chart-last) → slice_get c.args.chart.now (length c.args.chart.now - 1) ≡ Some c.index-chart-last.result
last c =
    let first = c.requires.first in
    slice_get_read c.args.chart.now _ (length c.args.chart.now - 1) c.index-chart-last.result refl (omega arith) c.index-chart-last.is

here : (c : After-index-chart-last) → IsPosition c.args.question.now.grammar.now (length c.args.chart.now - 1) c.index-chart-last.result
here c = c.requires.chart (length c.args.chart.now - 1) c.index-chart-last.result (last c)

-- the token behind it
inside : (c : After-index-chart-last) → length c.args.chart.now - 1 < length c.args.question.now.tokens.now
inside c = let first = c.requires.first in let end = c.requires.last in omega arith

-- the fronts that begin with that
listed : (c : After-index) → length c.args.chart.now - 1 < length c.args.question.now.tokens.now
    → slice_get c.args.question.now.tables.now.tokens.items (get_or c.args.question.now.tokens.now (length c.args.chart.now - 1) 0) ≡ Some c.index.result.now
listed c lt =
    let fronts = c.args.question.now.tables.now.tokens.items in
    let t : ℕ = get_or c.args.question.now.tokens.now (length c.args.chart.now - 1) 0 in
    let low = (c.requires.tokens (length c.args.chart.now - 1) 0 lt).1 in
    let many = c.requires.question.tokens.size in
    slice_get_read fronts _ t c.index.result.now refl (omega arith) c.index.ensures

pub rows-requires-clause-buckets : goal.rows-requires-clause-buckets
rows-requires-clause-buckets c = (here (goal.at.rows-requires-clause-buckets c).After-index-chart-last).buckets

pub rows-requires-clause-number : goal.rows-requires-clause-number
rows-requires-clause-number c =
    let size = (here (goal.at.rows-requires-clause-number c).After-index-chart-last).size in
    omega arith

pub put_rows-requires-clause-rows : goal.put_rows-requires-clause-rows
put_rows-requires-clause-rows c =
    let position = here (goal.at.put_rows-requires-clause-rows c).After-index-chart-last in
    subst (λ (l : List Row). All (IsRow c.args.question.now.grammar.now) l) (sym c.rows.ensures.2) (position.rows 0 c.rows.ensures.0 c.rows.ensures.1)

pub put_fronts-requires-clause-fronts : goal.put_fronts-requires-clause-fronts
put_fronts-requires-clause-fronts c =
    let g = c.args.question.now.grammar.now in
    let at = goal.at.put_fronts-requires-clause-fronts c in
    let t : ℕ = get_or c.args.question.now.tokens.now (length c.args.chart.now - 1) 0 in
    subst (λ (l : List Front). All (λ f. IsItem g f.item × (f.left ≤ g.nonterminals)) l) (sym c.deref-2.ensures.value)
    (c.requires.question.tokens.items t c.index.result.now (listed at.After-index (inside at.After-index-chart-last)))

pub returns : goal.returns
returns c =
    let was = goal.at.returns c in
    let g = c.args.question.now.grammar.now in
    let chart = c.args.chart.now in
    let tokens = c.args.question.now.tokens.now in
    let last_at : ℕ = length chart - 1 in
    let position = c.index-chart-last.result in
    let bucket = c.rows.ensures.0 in
    let lt = inside was.After-index-chart-last in
    let t : ℕ = get_or tokens last_at 0 in
    let fronts = c.args.question.now.tables.now.tokens.items in
    let list = c.index.result.now in
    let put = scan_puts g c.args.way.ahead c.args.way.cause chart fronts tokens t position bucket list (last was.After-index-chart-last) (slice_get-get_or tokens last_at 0 lt) c.rows.ensures.1 (listed was.After-index lt) c.args.now.now c.put_rows.new.now c.put_fronts.new.now
    (subst (λ (l : List Row). ArePut g c.args.way.ahead c.args.way.cause (OfRows l) c.args.now.now c.put_rows.new.now) c.rows.ensures.2 c.in_ok-put_rows.ensures.put)
    (subst (λ (l : List Front). ArePut g c.args.way.ahead c.args.way.cause (OfFronts position.expected.items l last_at) c.put_rows.new.now c.put_fronts.new.now) c.deref-2.ensures.value
    (subst (λ (l : List ℕ). ArePut g c.args.way.ahead c.args.way.cause (OfFronts l c.deref-2.result.now last_at) c.put_rows.new.now c.put_fronts.new.now) c.deref.ensures.value c.in_ok-put_fronts.ensures.put)) in
    record {
      now = c.in_ok-put_fronts.ensures.now;
      guesses = c.in_ok-put_fronts.ensures.guesses;
      before = before_follow g c.args.way.ahead c.args.way.cause (length chart) (OfScan chart fronts tokens) c.args.now.now c.put_fronts.new.now c.rules-well_formed.ensures.well_formed (λ x j h. scan_before g chart fronts tokens x j c.requires.chart h) put c.requires.before;
      put = put;
    }
