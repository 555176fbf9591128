-- What is told of a nonterminal in the table is what its least context costs.
use Rattle.std.proofs.Common.{◌≡◌, sym, ◌∙◌, subst}
use Rattle.cs_grammar.specs.Grammar.{IsNumberOf}
use Rattle.cs_grammar.specs.Weights.{Weighed}
use Rattle.cs_grammar.specs.Context.{context_size}
use Rattle.cs_least.specs.Cost.Least.{IsCost}
use Rattle.cs_least.specs.Embed.Around.{IsContextOf}
use Rattle.cs_least.specs.Embed.Ways.{told_at}
use Rattle.cs_least.proofs.OnEmbed.Outwards.{embed_table, told_read}
use Rattle.cs_least.proofs.embed.embeds.Embeds.embed.Goals as goal

pub returns : goal.returns
returns c =
    let n = c.args.nonterminal in
    let w = c.self.inside.costs.weights in
    let g = c.self.inside.costs.grammar in
    let table = c.self.inside.tables.reaches.items in
    let exact = embed_table w g _ _ _ c.self.invariant in
    let number = subst (λ (v : Weighed). IsNumberOf v.grammar.nonterminals n) (sym c.self.view_is) c.requires in
    let is : c.told_cost.result ≡ told_at table n = c.told_cost.ensures ∙ told_read table n _ (subst (λ m. IsNumberOf m n) (sym c.self.invariant.least.many) number) (rw c.place_of.ensures at c.index.ensures) in
    subst (λ (v : Weighed). IsCost v.weights.limit (IsContextOf v.grammar n) (context_size v.weights) c.told_cost.result) c.self.view_is
    (subst (IsCost w.limit (IsContextOf g n) (context_size w)) (sym is) (exact.exact n))
