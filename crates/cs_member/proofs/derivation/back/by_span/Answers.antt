-- What awaits the span's nonterminal stands where the span begins, or its rule begins there with it.
use Rattle.std.proofs.Common.{◌≡◌, ◌<◌, List, Some, length, take, refl, sym, ap, ◌∙◌, subst, arith}
use Rattle.std.specs.Prelude.{All, MatchOption, slice_get}
use Rattle.std.proofs.lemmas.Option.{slice_get_read, slice_get_within, same_Some}
use Rattle.cs_grammar.specs.declared.symbol.Symbol.TheVariants.{Nonterminal}
use Rattle.cs_member.specs.declared.derivation.back.Back.{Back}
use Rattle.cs_member.specs.declared.tables.fronts.Front.{Front}
use Rattle.cs_member.specs.declared.chart.chart.Position.{Position}
use Rattle.cs_member.specs.declared.chart.now.Span.{Span}
use Rattle.cs_member.specs.Tables.Item.{IsItem}
use Rattle.cs_member.specs.Chart.Chart.{IsSpan, OfSpan}
use Rattle.cs_member.specs.Derivation.Back.{NoneLeads, OfSymbol, IsBefore, IsBehind, IsFound}
use Rattle.cs_member.proofs.OnDerivation.Backing.{match_both, fronts_fit, position_at, span_at, span_back, span_none, span_read}
use Rattle.cs_member.proofs.derivation.back.by_span.Goals as goal
use Rattle.cs_member.proofs.derivation.back.by_span.Goals.{After-index-chart-span, After-index-fronts, After-index-span}

-- the position of the span, and the span
read : (c : After-index-span) → (slice_get c.args.chart.now c.args.at ≡ Some c.index-chart-at.result) × (slice_get c.index-chart-at.result.spans.items c.args.number ≡ Some c.index-span.result.now)
read c = span_read c.args.chart.now c.args.at c.args.number c.index-chart-at.result c.index-span.result.now c.requires.child c.index-chart-at.is c.index-span.ensures

fits : (c : After-index-span) → IsSpan c.args.question.now.grammar.now c.args.at c.index-span.result.now
fits c =
    let q = c.args.question.now in
    let at = read c in
    span_at q.grammar.now q.tables.now q.tokens.now c.args.chart.now c.rules-well_formed.ensures.well_formed c.requires.tables c.requires.chart c.args.at c.args.number c.index-chart-at.result c.index-span.result.now at.0 at.1

-- the span begins at a position of the chart
within : (c : After-index-span) → c.index-span.result.now.from < length c.args.chart.now
within c =
    let from = (fits c).from in
    let at = slice_get_within c.args.chart.now c.args.at c.index-chart-at.result (read c).0 in
    omega arith

pub index-fronts-requires : goal.index-fronts-requires
index-fronts-requires c =
    let low = (fits (goal.at.index-fronts-requires c).After-index-span).nonterminal in
    let size = c.requires.tables.question.nonterminals.size in
    let long = c.args.question.now.tables.now.nonterminals.ok.0 in
    omega arith

pub bounds-chart-span : goal.bounds-chart-span
bounds-chart-span c = within (goal.at.bounds-chart-span c).After-index-span

-- the position where the span begins
begun : (c : After-index-chart-span) → c.index-span.result.now.from < length c.args.chart.now → slice_get c.args.chart.now c.index-span.result.now.from ≡ Some c.index-chart-span.result
begun c lt = slice_get_read c.args.chart.now _ c.index-span.result.now.from c.index-chart-span.result refl lt c.index-chart-span.is

pub find_at-requires-clause-position : goal.find_at-requires-clause-position
find_at-requires-clause-position c =
    let q = c.args.question.now in
    let at = goal.at.find_at-requires-clause-position c in
    position_at q.grammar.now q.tables.now q.tokens.now c.args.chart.now c.rules-well_formed.ensures.well_formed c.requires.tables c.requires.chart c.index-span.result.now.from c.index-chart-span.result
    (begun at.After-index-chart-span (within at.After-index-span))

pub find_at-requires-clause-bucket : goal.find_at-requires-clause-bucket
find_at-requires-clause-bucket c = (fits (goal.at.find_at-requires-clause-bucket c).After-index-span).nonterminal

-- the fronts of its nonterminal
listed : (c : After-index-fronts) → IsSpan c.args.question.now.grammar.now c.args.at c.index-span.result.now
    → slice_get c.args.question.now.tables.now.nonterminals.items c.index-span.result.now.nonterminal ≡ Some c.index-fronts.result.now
listed c span =
    let low = span.nonterminal in
    let size = c.requires.tables.question.nonterminals.size in
    slice_get_read c.args.question.now.tables.now.nonterminals.items _ c.index-span.result.now.nonterminal c.index-fronts.result.now refl (omega arith) c.index-fronts.ensures

pub find_at-requires-clause-fronts : goal.find_at-requires-clause-fronts
find_at-requires-clause-fronts c =
    let at = goal.at.find_at-requires-clause-fronts c in
    let q = c.args.question.now in
    let g = q.grammar.now in
    subst (λ (l : List Front). All (λ f. IsItem g f.item × (0 < f.item.place)) l) (sym c.deref.ensures.value)
    (fronts_fit g Nonterminal g.nonterminals q.tables.now.nonterminals.items c.index-span.result.now.nonterminal c.index-fronts.result.now c.requires.tables.question.nonterminals (listed at.After-index-fronts (fits at.After-index-span)))

pub returns : goal.returns
returns c = λ r u at_r at_u.
    let was = goal.at.returns c in
    let q = c.args.question.now in
    let g = q.grammar.now in
    let chart = c.args.chart.now in
    let grammar = c.rules-well_formed.ensures.well_formed in
    let s = c.index-span.result.now in
    let here = c.index-chart-at.result in
    let at_here = (read was.After-index-span).0 in
    let at_s = (read was.After-index-span).1 in
    let p = c.index-chart-span.result in
    let at = begun was.After-index-chart-span (within was.After-index-span) in
    let list = c.index-fronts.result.now in
    let at_list = listed was.After-index-fronts (fits was.After-index-span) in
    let same_p : r ≡ here = same_Some r here (sym at_r ∙ at_here) in
    let same_s : s ≡ u = same_Some s u (sym at_s ∙ (ap (λ (x : Position). slice_get x.spans.items c.args.number) (sym same_p) ∙ at_u)) in
    match_both c.find_at.result
    (NoneLeads g c.args.sought (OfSymbol p s.nonterminal list.items s.from c.args.from))
    (NoneLeads g c.args.sought (λ x. OfSpan (take c.args.at chart) q.tables.now.nonterminals.items u x c.args.from))
    (λ (back : Back). IsBefore p s.nonterminal list.items s.from c.args.from back.before × (back.begin ≡ s.from) × IsBehind g c.args.sought back)
    (λ (back : Back). IsFound g q.tokens.now chart c.args.sought c.args.at c.args.from (Some c.args.number) back)
    (λ none. subst (λ (v : Span). NoneLeads g c.args.sought (λ x. OfSpan (take c.args.at chart) q.tables.now.nonterminals.items v x c.args.from)) same_s
    (span_none g q.tables.now q.tokens.now chart grammar c.requires.tables c.requires.chart c.args.sought c.args.at c.args.from p list here c.args.number s at_here at_s at at_list none))
    (span_back g q.tables.now q.tokens.now chart grammar c.requires.tables c.requires.chart c.args.sought c.args.at c.args.from p list here c.args.number s at_here at_s at at_list)
    (subst (λ (l : List Front). MatchOption c.find_at.result (NoneLeads g c.args.sought (OfSymbol p s.nonterminal l s.from c.args.from)) (λ (back : Back). IsBefore p s.nonterminal l s.from c.args.from back.before × (back.begin ≡ s.from) × IsBehind g c.args.sought back)) c.deref.ensures.value c.find_at.ensures)
