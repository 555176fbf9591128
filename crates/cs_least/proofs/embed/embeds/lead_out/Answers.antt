-- Each step leads by the first place to a left side that costs less, until the start symbol is reached.
use Rattle.std.proofs.Common.{◌≢◌, ◌+◌, ◌≤◌, List, length, drop, sym, ap, ◌∙◌, subst, arith}
use Rattle.std.specs.Prelude.{All}
use Rattle.std.proofs.lemmas.List.Elements.{All-drop}
use Rattle.cs_grammar.specs.declared.symbol.Symbol.{Symbol}
use Rattle.cs_grammar.specs.Grammar.{PlainGrammar, IsRule, IsSymbol, IsSymbolOf}
use Rattle.cs_least.specs.Cost.Chosen.{AppendsAllChosen}
use Rattle.cs_least.specs.Cost.Trees.{HaveSmall}
use Rattle.cs_least.specs.Embed.Kept.{IsSmallPlace}
use Rattle.cs_least.proofs.OnEmbed.FirstPlaces.{IsFirstPlace}
use Rattle.cs_least.proofs.OnEmbed.Lists.{rest_is}
use Rattle.cs_least.proofs.OnEmbed.Outwards.{IsEmbedTable, embed_table, out_more, out_end, left_less, first_within, first_some, first_none, small_place, behind_small, place_within}
use Rattle.cs_grammar.proofs.Measures.{rule_here, rule_number}
use Rattle.cs_least.proofs.embed.embeds.lead_out.Goals as goal
use Rattle.cs_least.proofs.embed.embeds.lead_out.Goals.{After-index-place, After-right, After-left-at}

-- what the table says of each nonterminal
exact : (c : After-index-place) → IsEmbedTable c.args.costs.now.weights c.args.costs.now.grammar c.args.tables.now.reaches.items
exact c = embed_table c.args.costs.now.weights c.args.costs.now.grammar _ _ _ c.requires.tables

-- the place that is read is the first one
first_at : (c : After-index-place) → (c.loop-first.at ≢ c.args.costs.now.grammar.start) × IsFirstPlace c.args.costs.now.weights c.args.costs.now.grammar c.args.tables.now.reaches.items c.loop-first.at c.index-place.result.now
first_at c =
    let here = c.loop-first.invariant in
    first_some c.args.costs.now.weights c.args.costs.now.grammar _ _ _ c.requires.tables _ here.number here.small _ _ (rw c.place_of.ensures at c.index.ensures) c.in-Some.is _ c.index-place.ensures

small_at : (c : After-index-place) → IsSmallPlace c.args.costs.now.weights c.args.costs.now.grammar c.index-place.result.now
small_at c = small_place c.args.costs.now.weights c.args.costs.now.grammar _ (exact c) _ _ (first_at c).1 c.loop-first.invariant.small

-- and the rule that is read is its rule
rule_at : (c : After-right) → IsRule c.args.costs.now.grammar c.index-place.result.now.rule c.rule-rule.result.now
rule_at c = rule_here c.args.costs.now.grammar _ c.index-place.result.now.rule c.rule-rule.result.now c.grammar-grammar.ensures c.rule-rule.ensures.rule

within : (c : After-right) → IsSmallPlace c.args.costs.now.weights c.args.costs.now.grammar c.index-place.result.now → c.index-place.result.now.place + 1 ≤ length c.right.result.now
within c small =
    let inside = place_within c.args.costs.now.weights c.args.costs.now.grammar c.index-place.result.now c.rule-rule.result.now small (rule_at c) in
    omega (arith, inside, ap (λ (l : List Symbol). length l) c.right.ensures)

appended : (c : After-left-at) → AppendsAllChosen c.args.costs.now.weights c.args.costs.now.grammar (drop (c.index-place.result.now.place + 1) c.rule-rule.result.now.right) c.loop-first.after c.all_into.new.into
appended c =
    let from = c.index-place.result.now.place + 1 in
    subst (λ (l : List Symbol). AppendsAllChosen c.args.costs.now.weights c.args.costs.now.grammar l c.loop-first.after c.all_into.new.into)
    (rest_is c.right.result.now from ∙ ap (λ (l : List Symbol). drop from l) c.right.ensures) c.in_ok-all_into.ensures.ok

pub index-place-requires : goal.index-place-requires
index-place-requires c =
    let here = c.loop-first.invariant in
    let inside = first_within c.args.costs.now.weights c.args.costs.now.grammar _ _ _ c.requires.tables _ here.number here.small _ _ (rw c.place_of.ensures at c.index.ensures) c.in-Some.is in
    omega (arith, inside, c.args.tables.now.places.ok.0)

pub rule-rule-requires : goal.rule-rule-requires
rule-rule-requires c = rule_number _ _ _ _ c.grammar-grammar.ensures (first_at (goal.at.rule-rule-requires c).After-index-place).1.inward.here.number

pub slice_bounds-all_into-count : goal.slice_bounds-all_into-count
slice_bounds-all_into-count c = let at = goal.at.slice_bounds-all_into-count c in within at.After-right (small_at at.After-index-place)

pub slice_bounds-all_into-start : goal.slice_bounds-all_into-start
slice_bounds-all_into-start c = let at = goal.at.slice_bounds-all_into-start c in within at.After-right (small_at at.After-index-place)

pub all_into-requires-clause-symbols : goal.all_into-requires-clause-symbols
all_into-requires-clause-symbols c =
    let g = c.args.costs.now.grammar in
    let from = c.index-place.result.now.place + 1 in
    let each = subst (λ (m : PlainGrammar). All (IsSymbol m.tokens m.nonterminals) c.rule-rule.result.now.right) c.grammar-grammar.ensures c.rule-rule.ensures.fits.right in
    subst (λ (l : List Symbol). All (IsSymbolOf g) l) (sym (rest_is c.right.result.now from))
    (All-drop (IsSymbolOf g) from c.right.result.now (subst (λ (l : List Symbol). All (IsSymbolOf g) l) (sym c.right.ensures) each))

pub all_into-requires-clause-small : goal.all_into-requires-clause-small
all_into-requires-clause-small c =
    let at = goal.at.all_into-requires-clause-small c in
    let w = c.args.costs.now.weights in
    let g = c.args.costs.now.grammar in
    let a = c.index-place.result.now in
    subst (λ (l : List Symbol). HaveSmall w g l) (sym (rest_is c.right.result.now (a.place + 1) ∙ ap (λ (l : List Symbol). drop (a.place + 1) l) c.right.ensures))
    (behind_small w g a c.rule-rule.result.now (small_at at.After-index-place) (rule_at at.After-right))

pub loop-first-preserved : goal.loop-first-preserved
loop-first-preserved c =
    let at = goal.at.loop-first-preserved c in
    let first = first_at at.After-index-place in
    out_more c.args.costs.now.weights c.args.costs.now.grammar _ (exact at.After-index-place) _ _ _ _ _ _ c.index-place.result.now c.rule-rule.result.now first.1 (rule_at at.After-right) _ c.left-at.ensures c.in_ok-push.ensures.items (appended at.After-left-at) c.loop-first.invariant first.0

pub loop-first-smaller : goal.loop-first-smaller
loop-first-smaller c =
    let at = goal.at.loop-first-smaller c in
    left_less c.args.costs.now.weights c.args.costs.now.grammar _ (exact at.After-index-place) _ _ _ _ _ _ c.index-place.result.now c.rule-rule.result.now (first_at at.After-index-place).1 (rule_at at.After-right) _ c.left-at.ensures c.in_ok-push.ensures.items (appended at.After-left-at) c.loop-first.invariant

pub returns : goal.returns
returns c =
    let here = c.loop-first.invariant in
    out_end c.args.costs.now.weights _ _ _ _ _ _ (first_none c.args.costs.now.weights _ _ _ _ c.requires.tables _ here.number here.small _ (rw c.place_of.ensures at c.index.ensures) c.in_default.is) here
