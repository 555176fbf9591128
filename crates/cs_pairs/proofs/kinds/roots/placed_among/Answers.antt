-- From the last symbol to the first, one stands in front of those that are swept.
use Rattle.std.proofs.Common.{◌≡◌, ◌+◌, ◌-◌, ◌<◌, length, drop, ap, sym, subst, ◌∙◌, arith}
use Rattle.cs_grammar.specs.declared.symbol.Symbol.TheVariants.{Token}
use Rattle.cs_pairs.specs.Kinds.ListCost.{bare_cost}
use Rattle.cs_pairs.specs.Kinds.Beside.{IsPlacedFrom}
use Rattle.cs_pairs.proofs.OnKinds.Placing.{placed_none, placed_next}
use Rattle.cs_pairs.proofs.kinds.roots.placed_among.Goals as goal

pub loop-index-init : goal.loop-index-init
loop-index-init c = placed_none c.args.kinds.now c.args.rows.now.kind c.args.symbols.now _ _ c.bare_cost.ensures (c.bare_cost-2.ensures ∙ ap bare_cost c.behind.ensures)

pub placed_over-placed-requires-clause-placed : goal.placed_over-placed-requires-clause-placed
placed_over-placed-requires-clause-placed c =
    let next : c.loop-index.index - 1 + 1 ≡ c.loop-index.index = omega (arith, c.loop-index-test.true) in
    (drop c.loop-index.index c.args.symbols.now, subst (λ n. IsPlacedFrom c.args.kinds.now c.args.rows.now.kind n (drop c.loop-index.index c.args.symbols.now) c.loop-index.placed) (sym next) c.loop-index.invariant)

pub loop-index-preserved : goal.loop-index-preserved
loop-index-preserved c =
    let xs = c.args.symbols.now in
    let next : c.loop-index.index - 1 + 1 ≡ c.loop-index.index = omega (arith, c.loop-index-test.true) in
    let within : c.loop-index.index - 1 < length xs = omega (arith, c.loop-index-test.true) in
    placed_next c.args.kinds.now c.args.rows.now.kind xs _ _ (Token 0) _ _ next within c.placed_over-placed.ensures c.loop-index.invariant
