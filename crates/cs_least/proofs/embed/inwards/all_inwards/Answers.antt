-- Behind the last rule the steps so far are those of all rules.
use Rattle.std.proofs.Common.{◌≡◌, ◌+◌, List, length, ap, ◌∙◌, subst, arith}
use Rattle.cs_grammar.specs.Grammar.{Production, PlainGrammar}
use Rattle.cs_least.specs.Embed.Ways.{AreInwardsTo}
use Rattle.cs_least.proofs.embed.inwards.all_inwards.Goals as goal

pub returns : goal.returns
returns c =
    let w = c.args.costs.now.weights in
    let g = c.args.costs.now.grammar in
    let rules = c.rules-count.ensures.rules ∙ ap (λ (s : PlainGrammar). s.rules) c.grammar.ensures in
    let last : c.loop-place.place ≡ length g.rules = omega (arith, c.loop-place-test.false, c.loop-place.auto.place-end, ap (λ (l : List Production). length l) rules) in
    subst (λ k. AreInwardsTo w g (k + 1) 0 c.loop-place.inwards.places.items c.loop-place.inwards.steps.items) last c.loop-place.invariant
