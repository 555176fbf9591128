-- From the last rule to the first, the sources of one rule more stand before those of the rules behind it.
use Rattle.std.proofs.Common.{◌≡◌, ◌+◌, ◌-◌, List, length, get_or, reverse, sym, ap, ◌∙◌, subst, arith}
use Rattle.cs_grammar.specs.Grammar.{Production, PlainGrammar}
use Rattle.cs_least.specs.declared.ways.step.Source.{Source}
use Rattle.cs_pairs.specs.declared.pairs.meeting.Meeting.{Meeting}
use Rattle.cs_pairs.specs.Pairs.Fronts.{AreFronts, AreBehinds}
use Rattle.cs_pairs.specs.Pairs.Sources.{AreSourcesFrom}
use Rattle.cs_pairs.proofs.OnPairs.Fronting.{row_of_rule}
use Rattle.cs_pairs.proofs.OnPairs.SourceLists.{sources_none}
use Rattle.cs_pairs.proofs.pairs.sources.sources_of.Goals as goal

pub loop-place-init : goal.loop-place-init
loop-place-init c =
    let w = c.args.kinds.now.weights in
    let g = c.args.kinds.now.grammar in
    let even : length c.rules-place.result.now ≡ length g.rules = ap (λ (l : List Production). length l) (c.rules-place.ensures.rules ∙ ap (λ (m : PlainGrammar). m.rules) c.grammar.ensures) in
    let none = sources_none w g c.args.token (reverse c.new.result.items) (reverse c.new-2.result.items) (ap reverse c.new.ensures.items) (ap reverse c.new-2.ensures.items) in
    record {
      sources = subst (λ n. AreSourcesFrom w g c.args.token (n + 1) 0 (reverse c.new.result.items) (reverse c.new-2.result.items)) (sym even) none;
      within = omega (arith, even);
    }

pub index-requires : goal.index-requires
index-requires c = omega (arith, c.loop-place-test.true, c.loop-place.invariant.within, c.requires.around.fronts.many)

pub index-requires-in-loop-place : goal.index-requires-in-loop-place
index-requires-in-loop-place c = omega (arith, c.loop-place-test.true, c.loop-place.invariant.within, c.requires.around.behinds.many)

pub push_sources-requires-clause-number : goal.push_sources-requires-clause-number
push_sources-requires-clause-number c = (omega (arith, c.number_of.ensures), omega (arith, c.number_of.ensures, c.loop-place-test.true, c.loop-place.invariant.within))

pub push_sources-requires-clause-fronts : goal.push_sources-requires-clause-fronts
push_sources-requires-clause-fronts c =
    let v = c.args.kinds.now in
    let rows = c.args.around.now.fronts.items in
    let place : c.loop-place.place - 1 ≡ c.number_of.result - 1 = omega (arith, c.number_of.ensures) in
    row_of_rule (AreFronts v.weights v.grammar) v.grammar rows c.number_of.result c.costs.result.now c.index.result.now c.index.result.now c.requires.around.fronts
    (omega (arith, c.number_of.ensures), omega (arith, c.number_of.ensures, c.loop-place-test.true, c.loop-place.invariant.within, c.requires.around.fronts.many))
    c.costs.ensures (c.index.ensures ∙ ap (λ k. get_or rows k c.index.result.now) place)

pub push_sources-requires-clause-behinds : goal.push_sources-requires-clause-behinds
push_sources-requires-clause-behinds c =
    let v = c.args.kinds.now in
    let rows = c.args.around.now.behinds.items in
    let place : c.loop-place.place - 1 ≡ c.number_of.result - 1 = omega (arith, c.number_of.ensures) in
    row_of_rule (AreBehinds v.weights v.grammar) v.grammar rows c.number_of.result c.costs-in-loop-place.result.now c.index-in-loop-place.result.now c.index-in-loop-place.result.now c.requires.around.behinds
    (omega (arith, c.number_of.ensures), omega (arith, c.number_of.ensures, c.loop-place-test.true, c.loop-place.invariant.within, c.requires.around.behinds.many))
    c.costs-in-loop-place.ensures (c.index-in-loop-place.ensures ∙ ap (λ k. get_or rows k c.index-in-loop-place.result.now) place)

pub push_sources-requires-clause-sources : goal.push_sources-requires-clause-sources
push_sources-requires-clause-sources c =
    let next : c.loop-place.place ≡ c.number_of.result = omega (arith, c.number_of.ensures, c.loop-place-test.true) in
    subst (λ n. AreSourcesFrom c.args.kinds.now.weights c.args.kinds.now.grammar c.args.token (n + 1) 0 (reverse c.loop-place.sources.places.items) (reverse c.loop-place.sources.list.items)) next c.loop-place.invariant.sources

pub loop-place-preserved : goal.loop-place-preserved
loop-place-preserved c = record {
  sources = subst (λ n. AreSourcesFrom c.args.kinds.now.weights c.args.kinds.now.grammar c.args.token n 0 (reverse c.push_sources.new.sources.places.items) (reverse c.push_sources.new.sources.list.items)) c.number_of.ensures c.in_ok-push_sources.ensures;
  within = omega (arith, c.loop-place.invariant.within);
}

pub returns : goal.returns
returns c =
    let w = c.args.kinds.now.weights in
    let g = c.args.kinds.now.grammar in
    let start : c.loop-place.place + 1 ≡ 1 = omega (arith, c.loop-place-test.false) in
    let all = subst (λ n. AreSourcesFrom w g c.args.token n 0 (reverse c.loop-place.sources.places.items) (reverse c.loop-place.sources.list.items)) start c.loop-place.invariant.sources in
    subst (λ (l : List Meeting). AreSourcesFrom w g c.args.token 1 0 l c.reverse-2.new.self.items) (sym c.reverse.ensures.items)
    (subst (λ (l : List Source). AreSourcesFrom w g c.args.token 1 0 (reverse c.loop-place.sources.places.items) l) (sym c.reverse-2.ensures.items) all)
