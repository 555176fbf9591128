-- The steps inwards lead between nonterminals, and the tables tell their least ways from the start symbol.
use Rattle.std.proofs.Common.{◌≡◌, ℕ, List, [], ◌∷◌, sym, ap, ◌∙◌, subst}
use Rattle.cs_grammar.specs.Grammar.{PlainGrammar, IsGrammar}
use Rattle.cs_grammar.specs.Weights.{Measure}
use Rattle.cs_least.specs.Embed.Ways.{start_of}
use Rattle.cs_least.proofs.OnEmbed.InwardWays.{inwards_net}
use Rattle.cs_least.specs.declared.ways.reach.Reach.{Reach}
use Rattle.cs_least.specs.Ways.Ways.{Net, net_of, IsNet, AreLeastWays, AreFirstSteps}
use Rattle.cs_least.proofs.embed.table.tables_of.Goals as goal

pub new-requires : goal.new-requires
new-requires c =
    let v = c.args.costs.now in
    let grammar = subst IsGrammar c.grammar-grammar.ensures c.rules-rules.ensures.well_formed in
    subst (λ n. IsNet (net_of n c.in_ok-places.field-0.steps.items)) (sym (c.nonterminals.ensures ∙ ap (λ (g : PlainGrammar). g.nonterminals) c.grammar-grammar.ensures))
    (inwards_net v.weights v.grammar grammar _ _ c.in_ok-places.ensures)

pub returns : goal.returns
returns c =
    let v = c.args.costs.now in
    let g = v.grammar in
    let steps = c.in_ok-places.field-0.steps.items in
    let table = c.in_ok-reaches.reaches.items in
    let net : c.in_ok-net.net ≡ net_of g.nonterminals steps = c.in_ok-net.ensures ∙ ap (λ n. net_of n steps) (c.nonterminals.ensures ∙ ap (λ (m : PlainGrammar). m.nonterminals) c.grammar-grammar.ensures) in
    let limit : c.limit.result ≡ v.weights.limit = c.limit.ensures.limit ∙ ap (λ (m : Measure). m.limit) c.weights.ensures.weights in
    let start : c.start.result ≡ g.start = c.start.ensures ∙ ap (λ (m : PlainGrammar). m.start) c.grammar-grammar.ensures in
    let reached =
    subst (λ (n : ℕ). AreLeastWays v.weights.limit c.in_ok-net.net (record { node = n; cost = 0 } ∷ []) table) start
    (subst (λ (k : ℕ). AreLeastWays k c.in_ok-net.net (record { node = c.start.result; cost = 0 } ∷ []) table) limit c.in_ok-reaches.ensures) in
    let read = c.deref.ensures.value in
    let firsts = c.in_ok-firsts.ensures v.weights.limit (start_of g) (subst (λ (t : List Reach). AreLeastWays v.weights.limit c.in_ok-net.net (start_of g) t) (sym read) reached) in
    record {
      grammar = subst IsGrammar c.grammar-grammar.ensures c.rules-rules.ensures.well_formed;
      steps = steps;
      inwards = c.in_ok-places.ensures;
      least = subst (λ (m : Net). AreLeastWays v.weights.limit m (start_of g) table) net reached;
      first_steps = subst (λ (m : Net). AreFirstSteps m (start_of g) table c.in_ok-firsts.firsts.items) net
          (subst (λ (t : List Reach). AreFirstSteps c.in_ok-net.net (start_of g) t c.in_ok-firsts.firsts.items) read firsts);
    }
