-- What stands behind one place more is the rest of the right side, and the sum is what it costs.
use Rattle.std.proofs.Common.{◌+◌, ◌∙◌, ap, drop, List}
use Rattle.cs_grammar.specs.declared.symbol.Symbol.{Symbol}
use Rattle.cs_least.proofs.OnEmbed.Lists.{rest_is}
use Rattle.cs_pairs.proofs.OnPairs.Fronting.{behinds_more}
use Rattle.cs_pairs.proofs.pairs.fronts.behinds_of.Goals as goal

pub loop-place-preserved : goal.loop-place-preserved
loop-place-preserved c =
    let v = c.args.costs.now in
    let p = c.args.rule.now in
    let items = c.right-right.result.now in
    let i = c.loop-place.place in
    let behind = rest_is items (i + 1) ∙ ap (λ (l : List Symbol). drop (i + 1) l) c.right-right.ensures in
    rw c.in_ok-push.ensures.items (behinds_more v.weights v.grammar p i c.loop-place.behinds.items _ c.sum.result c.loop-place.invariant behind c.sum.ensures)
