-- Trees of empty yield are those of the grammar of empty yields, which is well formed as well.
use Rattle.std.proofs.Common.{◌≡◌, ℕ, List, map, sym, ap, ◌∙◌, subst}
use Rattle.std.proofs.lemmas.Result.{IfOk-weaker}
use Rattle.cs_grammar.specs.Grammar.{Production, PlainGrammar, IsGrammar, grammar_of}
use Rattle.cs_grammar.specs.Weights.{Weighed, Measure, weighed}
use Rattle.cs_least.specs.declared.cost.cost.Cost.{Cost}
use Rattle.cs_pairs.specs.declared.kinds.kind.TreeKind.TheVariants.{Any, Empty}
use Rattle.cs_pairs.specs.Kinds.Bare.{bare_rule, bare_grammar}
use Rattle.cs_pairs.specs.Kinds.Tables.{AreCosts}
use Rattle.cs_pairs.proofs.OnKinds.Baring.{bare_costs, bare_fits}
use Rattle.cs_pairs.proofs.kinds.empties.empty_row.Goals as goal

-- the parts of the grammar of empty yields, put together
bare_is : (g : PlainGrammar) (tokens nonterminals start : ℕ) (rules : List Production) → tokens ≡ g.tokens → nonterminals ≡ g.nonterminals → start ≡ g.start → rules ≡ map bare_rule g.rules → grammar_of tokens nonterminals start rules ≡ bare_grammar g
bare_is g tokens nonterminals start rules et en es er =
    ap (λ t. grammar_of t nonterminals start rules) et ∙ ap (λ n. grammar_of g.tokens n start rules) en ∙ ap (λ s. grammar_of g.tokens g.nonterminals s rules) es ∙ ap (λ (l : List Production). grammar_of g.tokens g.nonterminals g.start l) er

pub new-bare-requires : goal.new-bare-requires
new-bare-requires c =
    let g = c.grammar-grammar.result.now in
    let is = bare_is g _ _ _ c.in_ok-rules.rules.items c.tokens.ensures c.nonterminals.ensures c.start.ensures c.in_ok-rules.ensures in
    subst IsGrammar (sym is) (bare_fits g c.rules-rules.ensures.well_formed)

pub returns : goal.returns
returns c =
    let v = c.args.costs.now in
    let g = c.grammar-grammar.result.now in
    let is = bare_is g _ _ _ c.in_ok-rules.rules.items c.tokens.ensures c.nonterminals.ensures c.start.ensures c.in_ok-rules.ensures in
    let grammar = c.new-bare.ensures ∙ is ∙ ap bare_grammar c.grammar-grammar.ensures in
    let both = c.in_ok-bare_costs.ensures ∙ ap (λ (m : PlainGrammar). weighed m c.weights-weights.result.now) grammar ∙ ap (λ (m : Measure). weighed (bare_grammar v.grammar) m) c.weights-weights.ensures.weights in
    IfOk-weaker c.any_row.result _ (AreCosts v.weights v.grammar Empty)
    (λ (row : List Cost) h. bare_costs v.weights v.grammar row (subst (λ (m : Weighed). AreCosts m.weights m.grammar Any row) both h)) c.any_row.ensures
