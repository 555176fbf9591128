-- The symbol's least tree is within the limit, so it has a chosen tree, whose code alone is written.
use Rattle.std.proofs.Common.{[], refl, sym, subst, append-nil, arith}
use Rattle.std.proofs.lemmas.List.Elements.{All-nil, All-cons}
use Rattle.std.proofs.lemmas.Result.{on_ok_weaker}
use Rattle.cs_grammar.specs.Grammar.{IsSymbolOf}
use Rattle.cs_grammar.specs.Weights.{Weighed}
use Rattle.cs_grammar.specs.Tree.{code}
use Rattle.cs_least.specs.Cost.Chosen.{IsChosen}
use Rattle.cs_least.specs.Cost.Trees.{HasLeast}
use Rattle.cs_least.specs.Cost.Parts.{IsWithin}
use Rattle.cs_least.proofs.OnCost.ChosenTrees.{chosen_exists}
use Rattle.cs_least.proofs.cost.costs.Costs.least_into.Goals as goal

pub write-requires : goal.write-requires
write-requires c =
    let x = c.args.symbol in
    let w = c.self.inside.trees.weights in
    let g = c.self.inside.trees.grammar in
    let least = subst (λ (v : Weighed). HasLeast v.weights v.grammar x) (sym c.self.view_is) c.requires.least in
    let symbol = subst (λ (v : Weighed). IsSymbolOf v.grammar x) (sym c.self.view_is) c.requires.symbol in
    let reached = least.1.1.reached in
    record { small = All-cons (IsWithin w g) x [] (symbol, (reached.0, reached.1, omega (arith, reached.2, least.1.0))) (All-nil (IsWithin w g)) }

pub returns-clause-ok : goal.returns-clause-ok
returns-clause-ok c =
    let x = c.args.symbol in
    let w = c.self.inside.trees.weights in
    let g = c.self.inside.trees.grammar in
    let least = (subst (λ (v : Weighed). HasLeast v.weights v.grammar x) (sym c.self.view_is) c.requires.least).1.1.reached in
    let t = chosen_exists w g x least.0 least.1 in
    on_ok_weaker c.write.result
    (λ e. record {
      tree = t.tree;
      chosen = subst (λ (v : Weighed). IsChosen v.weights v.grammar x t.tree) c.self.view_is t.chosen;
      text = e (code t.tree) (t.tree, [], t.chosen, refl, sym (append-nil (code t.tree)));
    })
    c.write.ensures.written
