-- The outermost place that is left adds its rule's number and the chosen trees of the symbols before it.
use Rattle.std.proofs.Common.{List, take, sym, subst}
use Rattle.cs_grammar.specs.declared.symbol.Symbol.{Symbol}
use Rattle.cs_least.specs.Cost.Chosen.{AppendsAllChosen}
use Rattle.cs_least.specs.Cost.Trees.{HaveSmall}
use Rattle.cs_least.proofs.OnEmbed.Outwards.{before_small, last_small, leads_more}
use Rattle.cs_grammar.proofs.Measures.{rule_here, rule_number}
use Rattle.cs_least.proofs.embed.embeds.write_lead.Goals as goal

pub rule-requires : goal.rule-requires
rule-requires c =
    let small = last_small c.args.costs.now.weights c.args.costs.now.grammar c.loop-place.places.items c.pop.new.self.items c.in-Some.place c.in-Some.ensures.items c.loop-place.invariant.small in
    rule_number _ _ _ _ c.grammar-grammar.ensures small.inward.here.number

pub all_into-requires-clause-small : goal.all_into-requires-clause-small
all_into-requires-clause-small c =
    let g = c.args.costs.now.grammar in
    let s = c.in-Some.place in
    let small = last_small c.args.costs.now.weights g c.loop-place.places.items c.pop.new.self.items s c.in-Some.ensures.items c.loop-place.invariant.small in
    let rule = rule_here g _ s.rule c.rule.result.now c.grammar-grammar.ensures c.rule.ensures.rule in
    subst (λ (l : List Symbol). HaveSmall c.args.costs.now.weights g (take s.place l)) (sym c.right-right.ensures) (before_small c.args.costs.now.weights g s c.rule.result.now small rule)

pub loop-place-preserved : goal.loop-place-preserved
loop-place-preserved c =
    let g = c.args.costs.now.grammar in
    let s = c.in-Some.place in
    let small = last_small c.args.costs.now.weights g c.loop-place.places.items c.pop.new.self.items s c.in-Some.ensures.items c.loop-place.invariant.small in
    let rule = rule_here g _ s.rule c.rule.result.now c.grammar-grammar.ensures c.rule.ensures.rule in
    let appended = subst (λ (l : List Symbol). AppendsAllChosen c.args.costs.now.weights g (take s.place l) c.push.new.self c.all_into.new.into) c.right-right.ensures c.in_ok-all_into.ensures.ok in
    leads_more c.args.costs.now.weights g c.args.places.now.items c.args.into.now c.loop-place.places.items c.pop.new.self.items c.loop-place.into c.push.new.self c.all_into.new.into s c.rule.result.now
    c.in-Some.ensures.items rule c.in_ok-push.ensures.ok appended c.loop-place.invariant
