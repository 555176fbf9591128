-- A token's yield is never empty, and a nonterminal has its entry in the row of empty trees.
use Rattle.std.proofs.Common.{get_or, sym, subst}
use Rattle.cs_grammar.specs.declared.symbol.Symbol.{Symbol}
use Rattle.cs_grammar.specs.Weights.{Weighed}
use Rattle.cs_least.specs.declared.cost.cost.Cost.TheVariants.{Never}
use Rattle.cs_pairs.specs.declared.kinds.kind.TreeKind.TheVariants.{Empty}
use Rattle.cs_pairs.specs.Kinds.KindCost.{IsKindCost}
use Rattle.cs_pairs.specs.Kinds.Tables.{AreCosts}
use Rattle.cs_pairs.proofs.OnKinds.KindCosts.{leaf_exact, symbol_told}
use Rattle.cs_pairs.proofs.kinds.rims.empty_cost.Goals as goal

pub returns-in-Token : goal.returns-in-Token
returns-in-Token c =
    let v = c.args.bases.now in
    subst (λ (x : Symbol). IsKindCost v Empty x Never) (sym c.in-Token.is) (leaf_exact v.weights v.grammar Empty c.in-Token.field-0)

pub returns-in-Nonterminal : goal.returns-in-Nonterminal
returns-in-Nonterminal c =
    let v = c.args.bases.now in
    let empty = c.bases.inside.empty.now in
    let costs = subst (λ (u : Weighed). AreCosts u.weights u.grammar Empty empty) c.bases.view_is c.bases.invariant in
    let at = symbol_told v.weights v.grammar Empty c.args.symbol c.in-Nonterminal.number empty _ c.in-Nonterminal.is c.requires costs in
    subst (λ (i : _). IsKindCost v Empty c.args.symbol (get_or empty i _)) (sym c.place_of.ensures) at
