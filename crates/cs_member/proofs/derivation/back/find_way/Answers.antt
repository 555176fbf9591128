-- An item that stands was found over the token or over a span, so one of these leads back.
use Rattle.std.proofs.Common.{◌≡◌, inl, inr, Some, refl, sym, ap, ◌∙◌, arith}
use Rattle.std.specs.Prelude.{slice_get}
use Rattle.std.proofs.lemmas.Bool.{cases_eq}
use Rattle.std.proofs.lemmas.Option.{slice_get_read, slice_get_within}
use Rattle.cs_member.specs.declared.chart.chart.Position.{Position}
use Rattle.cs_member.proofs.OnDerivation.Backing.{stands_item, stands_way}
use Rattle.cs_member.proofs.OnTables.Places.{there_at}
use Rattle.cs_member.proofs.derivation.back.find_way.Goals as goal

pub by_token-requires-clause-sought : goal.by_token-requires-clause-sought
by_token-requires-clause-sought c =
    let q = c.args.question.now in
    stands_item q.grammar.now q.tables.now q.tokens.now c.args.chart.now c.requires.tables c.requires.chart c.args.item c.args.from c.args.at c.requires.item

pub by_span-requires-clause-sought : goal.by_span-requires-clause-sought
by_span-requires-clause-sought c =
    let q = c.args.question.now in
    stands_item q.grammar.now q.tables.now q.tokens.now c.args.chart.now c.requires.tables c.requires.chart c.args.item c.args.from c.args.at c.requires.item

pub by_span-requires-clause-child : goal.by_span-requires-clause-child
by_span-requires-clause-child c =
    let chart = c.args.chart.now in
    let p = c.requires.item.1 in
    let inside = slice_get_within chart c.args.at p c.requires.item.2 in
    let here = c.index-chart-at.result in
    let at : slice_get chart c.args.at ≡ Some here = slice_get_read chart _ c.args.at here refl inside c.index-chart-at.is in
    let size : c.len-number-end.result ≡ here.spans.len = c.len-number-end.ensures ∙ ap (λ (r : Position). r.spans.len) (sym c.index-chart-at.is) in
    let ok = here.spans.ok.0 in
    (here, at, (let lt = c.loop-number-test.true in omega arith))

pub returns-in-Some-by_span : goal.returns-in-Some-by_span
returns-in-Some-by_span c =
    let q = c.args.question.now in
    let chart = c.args.chart.now in
    let p = c.requires.item.1 in
    let inside = slice_get_within chart c.args.at p c.requires.item.2 in
    let here = c.index-chart-at.result in
    let at : slice_get chart c.args.at ≡ Some here = slice_get_read chart _ c.args.at here refl inside c.index-chart-at.is in
    let size : c.len-number-end.result ≡ here.spans.len = c.len-number-end.ensures ∙ ap (λ (r : Position). r.spans.len) (sym c.index-chart-at.is) in
    let ok = here.spans.ok.0 in
    let s = there_at here.spans.items c.loop-number.number (let lt = c.loop-number-test.true in omega arith) in
    c.in-Some-by_span.ensures here s.0 at s.1

pub loop-number-preserved : goal.loop-number-preserved
loop-number-preserved c = λ p m at lt first x of leads.
    elim (cases_eq m c.loop-number.number) [
      | inl same ↦
          let at_s : slice_get p.spans.items c.loop-number.number ≡ Some of.0 = ap (λ n. slice_get p.spans.items n) (sym same) ∙ of.1 in
          c.in_default-by_span.ensures p of.0 at at_s first x of.2 leads
      | inr other ↦ c.loop-number.invariant p m at (omega arith) first x of leads
    ]

pub unreachable-requires : goal.unreachable-requires
unreachable-requires c =
    let q = c.args.question.now in
    let chart = c.args.chart.now in
    let p = c.requires.item.1 in
    let inside = slice_get_within chart c.args.at p c.requires.item.2 in
    let here = c.index-chart-at.result in
    let at : slice_get chart c.args.at ≡ Some here = slice_get_read chart _ c.args.at here refl inside c.index-chart-at.is in
    let size : c.len-number-end.result ≡ here.spans.len = c.len-number-end.ensures ∙ ap (λ (r : Position). r.spans.len) (sym c.index-chart-at.is) in
    let ok = here.spans.ok.0 in
    let end = c.loop-number-test.false in
    stands_way q.grammar.now q.tables.now q.tokens.now chart c.requires.tables c.requires.chart c.args.item c.args.from c.args.at here at c.requires.item
    (λ first x of leads. c.in_default.ensures first x of leads)
    (λ m lt first x of leads. c.loop-number.invariant here m at (omega arith) first x of leads)
