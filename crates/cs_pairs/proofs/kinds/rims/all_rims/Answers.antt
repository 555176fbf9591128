-- No place comes before those of the first rule, so there is no step yet.
use Rattle.std.proofs.Common.{[], refl, ⊎_elim, arith}
use Rattle.cs_least.specs.Embed.Ways.{at_rule, at_place}
use Rattle.cs_grammar.specs.Places.{IsEarlier}
use Rattle.cs_least.proofs.OnWays.PlacedLists.{placed_none}
use Rattle.cs_pairs.specs.Kinds.Rims.{IsRim, HasBeside}
use Rattle.cs_pairs.proofs.kinds.rims.all_rims.Goals as goal

pub loop-place-init : goal.loop-place-init
loop-place-init c =
    let v = c.args.bases.now in (
      [],
      placed_none at_rule at_place (IsRim v.weights v.grammar c.args.side) (HasBeside v.grammar c.args.side) (λ r k. IsEarlier r k 1 0) [] _ refl c.new-steps.ensures.items
          (λ r k has within. let above = has.here.number.above_zero in ⊎_elim (λ lower. omega (arith, above, lower)) (λ same. omega (arith, same.1)) within),
    )
