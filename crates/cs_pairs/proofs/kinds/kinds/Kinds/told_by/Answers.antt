-- A token is a leaf, and a nonterminal has its entry in the row of the kind.
use Rattle.std.proofs.Common.{sym, subst}
use Rattle.cs_grammar.specs.declared.symbol.Symbol.{Symbol}
use Rattle.cs_grammar.specs.declared.symbol.Symbol.TheVariants.{Token}
use Rattle.cs_grammar.specs.Weights.{Measure}
use Rattle.cs_grammar.specs.Tree.{size}
use Rattle.cs_least.specs.Cost.Least.{IsCost}
use Rattle.cs_pairs.specs.Kinds.Kinds.{IsTreeOfKind}
use Rattle.cs_pairs.proofs.OnKinds.KindCosts.{leaf_exact, symbol_told}
use Rattle.cs_pairs.proofs.kinds.kinds.Kinds.told_by.Goals as goal

pub returns-in-Token : goal.returns-in-Token
returns-in-Token c =
    let k = c.args.kind in
    let w = c.weights.result.now in
    let g = c.args.self.now.grammar in
    subst (λ (x : Symbol). IsCost c.args.self.now.weights.limit (IsTreeOfKind g k x) (size c.args.self.now.weights) c.leaf_cost.result) (sym c.in-Token.is)
    (subst (λ (m : Measure). IsCost m.limit (IsTreeOfKind g k (Token c.in-Token.token)) (size m) c.leaf_cost.result) c.weights.ensures.weights
    (subst (IsCost w.limit (IsTreeOfKind g k (Token c.in-Token.token)) (size w)) (sym c.leaf_cost.ensures.cost) (leaf_exact w g k c.in-Token.token)))

pub returns-in-Nonterminal : goal.returns-in-Nonterminal
returns-in-Nonterminal c = rw c.place_of.ensures (symbol_told c.args.self.now.weights _ _ _ c.in-Nonterminal.number _ _ c.in-Nonterminal.is c.requires.symbol c.requires.row)
