-- One nonterminal more has its entry, which is what any tree of it costs at least.
use Rattle.std.proofs.Common.{◌+◌, sym, ap, ◌∙◌, subst}
use Rattle.cs_grammar.specs.declared.symbol.Symbol.TheVariants.{Nonterminal}
use Rattle.cs_grammar.specs.Grammar.{PlainGrammar, IsGrammar}
use Rattle.cs_grammar.specs.Tree.{size}
use Rattle.cs_pairs.specs.declared.kinds.kind.TreeKind.TheVariants.{Any}
use Rattle.cs_pairs.specs.Kinds.Kinds.{IsTreeOfKind}
use Rattle.cs_pairs.specs.Kinds.Filled.{IsFilled}
use Rattle.cs_pairs.specs.Kinds.Tables.{AreCosts}
use Rattle.cs_pairs.proofs.OnKinds.Filling.{filled_more, filled_all}
use Rattle.cs_pairs.proofs.OnKinds.KindCosts.{costs_filled, of_any}
use Rattle.cs_pairs.proofs.kinds.kinds.any_row.Goals as goal

pub loop-place-preserved : goal.loop-place-preserved
loop-place-preserved c =
    let g = c.args.costs.now.grammar in
    let n = c.loop-place.place in
    subst (IsFilled c.args.costs.now.weights.limit (λ m. IsTreeOfKind g Any (Nonterminal m)) (size c.args.costs.now.weights) (n + 1)) (sym c.in_ok-push.ensures.items)
    (filled_more c.args.costs.now.weights.limit (λ m. IsTreeOfKind g Any (Nonterminal m)) (size c.args.costs.now.weights) n _ _ c.loop-place.invariant (of_any c.args.costs.now.weights g (Nonterminal (n + 1)) _ c.cost.ensures))

pub returns : goal.returns
returns c =
    let g = c.args.costs.now.grammar in
    let grammar = subst IsGrammar c.grammar.ensures c.rules-rules.ensures.well_formed in
    let end = c.nonterminals-place-end.ensures ∙ ap (λ (s : PlainGrammar). s.nonterminals) c.grammar-2.ensures in
    subst (AreCosts c.args.costs.now.weights g Any) (sym c.new.ensures)
    (costs_filled c.args.costs.now.weights g Any _ grammar (filled_all c.args.costs.now.weights.limit (λ m. IsTreeOfKind g Any (Nonterminal m)) (size c.args.costs.now.weights) _ _ _ _ c.loop-place.invariant c.loop-place-test.false end c.loop-place.auto.place-end))
