-- The steps lead from symbols of the grammar to symbols of the grammar, which are the nodes.
use Rattle.std.proofs.Common.{◌+◌, ap, ◌∙◌, subst, arith}
use Rattle.cs_grammar.specs.Grammar.{PlainGrammar, IsGrammar}
use Rattle.cs_grammar.specs.Weights.{Weighed}
use Rattle.cs_pairs.proofs.OnKinds.RimLists.{rims_net}
use Rattle.cs_pairs.proofs.kinds.nets.net_of.Goals as goal

pub new-requires : goal.new-requires
new-requires c =
    let v = c.args.bases.now in
    let rims = c.in_ok-rims.rims in
    let same = c.grammar-grammar.ensures ∙ ap (λ (u : Weighed). u.grammar) c.bases.view_is in
    let tokens = c.tokens.ensures ∙ ap (λ (m : PlainGrammar). m.tokens) same in
    let nonterminals = c.nonterminals.ensures ∙ ap (λ (m : PlainGrammar). m.nonterminals) same in
    rims_net v.weights v.grammar c.args.side (subst IsGrammar same c.rules-rules.ensures.well_formed) c.in_ok-rims.ensures.0 rims.items c.in_ok-rims.ensures.1 (c.tokens.result + c.nonterminals.result) (omega (arith, tokens, nonterminals))
