-- Rows that await the span's nonterminal, and fronts that begin with it, give all that follows from the span.
use Rattle.std.proofs.Common.{◌≡◌, ℕ, ◌<◌, ◌≤◌, length, List, Some, refl, sym, ◌∙◌, subst, arith}
use Rattle.std.specs.Prelude.{All, slice_get}
use Rattle.std.proofs.lemmas.Option.{slice_get_read, same_Some}
use Rattle.cs_member.specs.declared.chart.chart.Row.{Row}
use Rattle.cs_member.specs.declared.chart.now.Span.{Span}
use Rattle.cs_member.specs.declared.tables.fronts.Front.{Front}
use Rattle.cs_member.specs.Tables.Item.{IsItem}
use Rattle.cs_member.specs.Chart.Now.{ArePut}
use Rattle.cs_member.specs.Chart.Chart.{IsPosition, IsRow, OfRows, OfFronts, OfSpan, IsSpan}
use Rattle.cs_member.proofs.OnChart.Following.{follow_puts, span_before, before_follow}
use Rattle.cs_member.proofs.chart.chart.follow.Goals as goal
use Rattle.cs_member.proofs.chart.chart.follow.Goals.{After-index, After-index-chart-span, After-index-span}

fits : (c : After-index-span) → IsSpan c.args.question.now.grammar.now (length c.args.chart.now) c.index-span.result.now
fits c = subst (λ (t : Span). IsSpan c.args.question.now.grammar.now (length c.args.chart.now) t) (sym c.index-span.ensures) (c.requires.before.spans c.args.number c.index-span.result.now c.requires.number)

-- the position where the span begins
begun : (c : After-index-chart-span) → c.index-span.result.now.from < length c.args.chart.now → slice_get c.args.chart.now c.index-span.result.now.from ≡ Some c.index-chart-span.result
begun c from = slice_get_read c.args.chart.now _ c.index-span.result.now.from c.index-chart-span.result refl from c.index-chart-span.is

here : (c : After-index-chart-span) → c.index-span.result.now.from < length c.args.chart.now → IsPosition c.args.question.now.grammar.now c.index-span.result.now.from c.index-chart-span.result
here c from = c.requires.chart c.index-span.result.now.from c.index-chart-span.result (begun c from)

-- the fronts of its nonterminal
listed : (c : After-index) → IsSpan c.args.question.now.grammar.now (length c.args.chart.now) c.index-span.result.now
    → slice_get c.args.question.now.tables.now.nonterminals.items c.index-span.result.now.nonterminal ≡ Some c.index.result.now
listed c span =
    let low = span.nonterminal in
    let many = c.requires.question.nonterminals.size in
    slice_get_read c.args.question.now.tables.now.nonterminals.items _ c.index-span.result.now.nonterminal c.index.result.now refl (omega arith) c.index.ensures

pub rows-requires-clause-buckets : goal.rows-requires-clause-buckets
rows-requires-clause-buckets c =
    let at = goal.at.rows-requires-clause-buckets c in
    (here at.After-index-chart-span (fits at.After-index-span).from).buckets

pub rows-requires-clause-number : goal.rows-requires-clause-number
rows-requires-clause-number c =
    let at = goal.at.rows-requires-clause-number c in
    let span = fits at.After-index-span in
    let low = span.nonterminal in
    let size = (here at.After-index-chart-span span.from).size in
    omega arith

pub put_rows-requires-clause-rows : goal.put_rows-requires-clause-rows
put_rows-requires-clause-rows c =
    let at = goal.at.put_rows-requires-clause-rows c in
    let position = here at.After-index-chart-span (fits at.After-index-span).from in
    subst (λ (l : List Row). All (IsRow c.args.question.now.grammar.now) l) (sym c.rows.ensures.2) (position.rows c.index-span.result.now.nonterminal c.rows.ensures.0 c.rows.ensures.1)

pub put_fronts-requires-clause-fronts : goal.put_fronts-requires-clause-fronts
put_fronts-requires-clause-fronts c =
    let g = c.args.question.now.grammar.now in
    let at = goal.at.put_fronts-requires-clause-fronts c in
    subst (λ (l : List Front). All (λ f. IsItem g f.item × (f.left ≤ g.nonterminals)) l) (sym c.deref-2.ensures.value)
    (c.requires.question.nonterminals.items c.index-span.result.now.nonterminal c.index.result.now (listed at.After-index (fits at.After-index-span)))

pub returns : goal.returns
returns c =
    let was = goal.at.returns c in
    let g = c.args.question.now.grammar.now in
    let chart = c.args.chart.now in
    let s = c.index-span.result.now in
    let position = c.index-chart-span.result in
    let bucket = c.rows.ensures.0 in
    let fronts = c.args.question.now.tables.now.nonterminals.items in
    let list = c.index.result.now in
    let span = fits was.After-index-span in
    let put = follow_puts g c.args.ahead (Some c.args.number) chart fronts s position bucket list (begun was.After-index-chart-span span.from) c.rows.ensures.1 (listed was.After-index span) c.args.now.now c.put_rows.new.now c.put_fronts.new.now
    (subst (λ (l : List Row). ArePut g c.args.ahead (Some c.args.number) (OfRows l) c.args.now.now c.put_rows.new.now) c.rows.ensures.2 c.in_ok-put_rows.ensures.put)
    (subst (λ (l : List Front). ArePut g c.args.ahead (Some c.args.number) (OfFronts position.expected.items l s.from) c.put_rows.new.now c.put_fronts.new.now) c.deref-2.ensures.value
    (subst (λ (l : List ℕ). ArePut g c.args.ahead (Some c.args.number) (OfFronts l c.deref-2.result.now s.from) c.put_rows.new.now c.put_fronts.new.now) c.deref.ensures.value c.in_ok-put_fronts.ensures.put)) in
    record {
      now = c.in_ok-put_fronts.ensures.now;
      guesses = c.in_ok-put_fronts.ensures.guesses;
      before = before_follow g c.args.ahead (Some c.args.number) (length chart) (OfSpan chart fronts s) c.args.now.now c.put_fronts.new.now c.rules-well_formed.ensures.well_formed (λ x j h. span_before g chart fronts s x j c.requires.chart h) put c.requires.before;
      put = λ t there.
          let same : s ≡ t = same_Some s t (sym (slice_get_read c.args.now.now.spans.items _ c.args.number s refl c.requires.number c.index-span.ensures) ∙ there) in
          subst (λ (u : Span). ArePut g c.args.ahead (Some c.args.number) (OfSpan chart fronts u) c.args.now.now c.put_fronts.new.now) same put;
    }
