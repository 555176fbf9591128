-- Symbols with trees within the limit have chosen trees together, whose codes are what is written.
use Rattle.std.proofs.Common.{◌++◌, List, ℕ, [], refl, sym, ap, ◌∙◌, subst, append-nil}
use Rattle.std.specs.Prelude.{All}
use Rattle.std.proofs.lemmas.Result.{on_ok_weaker}
use Rattle.cs_grammar.specs.Grammar.{IsSymbol}
use Rattle.cs_grammar.specs.Weights.{Weighed}
use Rattle.cs_grammar.specs.Tree.{codes_of}
use Rattle.cs_grammar.specs.declared.symbol.Symbol.{Symbol}
use Rattle.cs_least.specs.Cost.Chosen.{AreChosen}
use Rattle.cs_least.specs.Cost.Trees.{HaveSmall}
use Rattle.cs_least.specs.Cost.Parts.{IsText}
use Rattle.cs_least.proofs.OnCost.ChosenTrees.{chosen_forest}
use Rattle.cs_least.proofs.OnCost.Written.{IsText-whole, forest_within}
use Rattle.cs_least.proofs.cost.costs.Costs.all_into.Goals as goal

pub write-requires : goal.write-requires
write-requires c =
    let xs = c.args.symbols.now in
    let w = c.self.inside.trees.weights in
    let g = c.self.inside.trees.grammar in
    let f = subst (λ (v : Weighed). HaveSmall v.weights v.grammar xs) (sym c.self.view_is) c.requires.small in
    let each = subst (λ (v : Weighed). All (IsSymbol v.grammar.tokens v.grammar.nonterminals) xs) (sym c.self.view_is) c.requires.symbols in
    record { small = forest_within w g f.0 xs f.1 f.2 each }

pub returns-clause-ok : goal.returns-clause-ok
returns-clause-ok c =
    let xs = c.args.symbols.now in
    let w = c.self.inside.trees.weights in
    let g = c.self.inside.trees.grammar in
    let f = subst (λ (v : Weighed). HaveSmall v.weights v.grammar xs) (sym c.self.view_is) c.requires.small in
    let h = chosen_forest w g f.0 xs f.1 in
    let text : IsText w g (xs ++ []) (codes_of h.0 ++ []) = IsText-whole w g h.0 xs [] [] h.1 refl in
    on_ok_weaker c.write.result
    (λ e. record {
      trees = h.0;
      chosen = subst (λ (v : Weighed). AreChosen v.weights v.grammar xs h.0) c.self.view_is h.1;
      text = e (codes_of h.0) (subst (λ (l : List ℕ). IsText w g xs l) (append-nil (codes_of h.0)) (subst (λ (l : List Symbol). IsText w g l (codes_of h.0 ++ [])) (append-nil xs) text));
    })
    c.write.ensures.written
