-- The way outwards gives what stands behind the hole of the chosen context, and the way back what is before.
use Rattle.std.proofs.Common.{◌++◌, List, ℕ, sym, ap, ◌∙◌, subst}
use Rattle.cs_grammar.specs.Weights.{Weighed}
use Rattle.cs_grammar.specs.Context.{code_before}
use Rattle.cs_least.specs.Embed.Around.{HasLeastContext, IsAround}
use Rattle.cs_least.proofs.OnEmbed.ChosenContexts.{chosen_context_exists}
use Rattle.cs_least.proofs.OnEmbed.Outwards.{embed_table, told_small, filled}
use Rattle.cs_least.proofs.embed.embeds.Embeds.around.Goals as goal

pub lead_out-requires-clause-small : goal.lead_out-requires-clause-small
lead_out-requires-clause-small c =
    let v = c.self.inside.costs in
    let n = c.args.nonterminal in
    told_small v.weights v.grammar c.self.inside.tables.reaches.items n (embed_table v.weights v.grammar _ _ _ c.self.invariant)
    (subst (λ (u : Weighed). HasLeastContext u.weights u.grammar n) (sym c.self.view_is) c.requires.least)

pub returns-clause-chosen : goal.returns-clause-chosen
returns-clause-chosen c =
    let w = c.self.inside.costs.weights in
    let g = c.self.inside.costs.grammar in
    let n = c.args.nonterminal in
    let least = (subst (λ (v : Weighed). HasLeastContext v.weights v.grammar n) (sym c.self.view_is) c.requires.least).1.1.reached in
    let d = chosen_context_exists w g n least.0 least.1 in
    let text = c.in_ok-places.ensures.text d.context d.chosen in
    let written : IsAround w g n c.into_rules.result.items c.into_rules-2.result.items =
    record {
      context = d.context;
      chosen = d.chosen;
      before_hole = c.into_rules.ensures
          ∙ c.in_ok-write_lead.ensures (code_before d.context) text.0 ∙ ap (λ (l : List ℕ). l ++ code_before d.context) c.in_ok-before.ensures;
      behind_hole = c.into_rules-2.ensures ∙ sym text.1;
    } in
    subst (λ (v : Weighed). IsAround v.weights v.grammar n c.into_rules.result.items c.into_rules-2.result.items) c.self.view_is written

pub returns-clause-filled : goal.returns-clause-filled
returns-clause-filled c = λ t h. filled c.args.self.now.weights c.args.self.now.grammar c.args.nonterminal _ _ t (returns-clause-chosen c) h
