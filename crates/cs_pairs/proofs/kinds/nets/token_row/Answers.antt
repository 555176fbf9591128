-- The least way from the token to a nonterminal costs what its least tree with the token at the side costs.
use Rattle.std.proofs.Common.{◌≡◌, ◌+◌, ◌<◌, [], ◌∷◌, refl, sym, ap, ◌∙◌, subst, arith}
use Rattle.cs_grammar.specs.declared.symbol.Symbol.TheVariants.{Nonterminal}
use Rattle.cs_grammar.specs.Grammar.{PlainGrammar, IsGrammar}
use Rattle.cs_grammar.specs.Weights.{Measure, number}
use Rattle.cs_grammar.specs.Tree.{size}
use Rattle.cs_least.specs.Cost.Least.{IsCost}
use Rattle.cs_least.specs.Embed.Ways.{told_cost}
use Rattle.cs_least.specs.declared.ways.step.Source.{Source}
use Rattle.cs_least.specs.Ways.Ways.{AreLeastWays}
use Rattle.cs_pairs.specs.Kinds.Filled.{IsFilled}
use Rattle.cs_pairs.specs.Kinds.Kinds.{IsTreeOfKind}
use Rattle.cs_pairs.specs.Kinds.Sides.{kind_on}
use Rattle.cs_pairs.specs.Kinds.Tables.{AreCosts}
use Rattle.cs_pairs.proofs.OnKinds.Filling.{filled_more, filled_all}
use Rattle.cs_pairs.proofs.OnKinds.KindCosts.{costs_filled}
use Rattle.cs_pairs.proofs.OnKinds.Reaching.{row_entry}
use Rattle.cs_pairs.proofs.kinds.nets.token_row.Goals as goal

pub loop-place-preserved : goal.loop-place-preserved
loop-place-preserved c =
    let w = c.args.costs.now.weights in
    let g = c.args.costs.now.grammar in
    let net = c.args.net.now.steps in
    let side = c.args.net.now.side in
    let t = c.args.token in
    let n = c.loop-place.place in
    let same = c.weights-weights.ensures.weights in
    let table = c.in_ok-table.table.items in
    let source : Source = record { node = t; cost = c.number.result } in
    let least = subst (λ l. AreLeastWays l net (source ∷ []) table) (c.limit.ensures.limit ∙ ap (λ (m : Measure). m.limit) same) c.in_ok-table.ensures in
    let grammar = subst IsGrammar c.grammar.ensures c.rules-rules.ensures.well_formed in
    let within : n < g.nonterminals = omega (arith, c.loop-place-test.true, c.nonterminals-place-end.ensures, ap (λ (m : PlainGrammar). m.nonterminals) c.grammar-3.ensures) in
    let tokens : c.tokens-tokens.result ≡ g.tokens = c.tokens-tokens.ensures ∙ ap (λ (m : PlainGrammar). m.tokens) c.grammar-2.ensures in
    let cost = row_entry w g side grammar net c.requires.net.places c.requires.net.rims t c.requires.token source refl (c.number.ensures ∙ ap (λ (m : Measure). number m t) same) c.requires.net.nodes table least n (c.tokens-tokens.result + n) c.index.result.now within (ap (λ k. k + n) tokens) in
    subst (IsFilled w.limit (λ m. IsTreeOfKind g (kind_on side t) (Nonterminal m)) (size w) (n + 1)) (sym c.in_ok-push.ensures.items)
    (filled_more w.limit (λ m. IsTreeOfKind g (kind_on side t) (Nonterminal m)) (size w) n _ _ c.loop-place.invariant
    (subst (IsCost w.limit (IsTreeOfKind g (kind_on side t) (Nonterminal (n + 1))) (size w)) (sym (c.told_cost.ensures ∙ ap told_cost c.index.ensures)) cost))

pub returns : goal.returns
returns c =
    let w = c.args.costs.now.weights in
    let g = c.args.costs.now.grammar in
    let k = kind_on c.args.net.now.side c.args.token in
    let grammar = subst IsGrammar c.grammar.ensures c.rules-rules.ensures.well_formed in
    let end = c.nonterminals-place-end.ensures ∙ ap (λ (m : PlainGrammar). m.nonterminals) c.grammar-3.ensures in
    subst (AreCosts w g k) (sym c.new.ensures)
    (costs_filled w g k _ grammar (filled_all w.limit (λ m. IsTreeOfKind g k (Nonterminal m)) (size w) _ _ _ _ c.loop-place.invariant c.loop-place-test.false end c.loop-place.auto.place-end))
