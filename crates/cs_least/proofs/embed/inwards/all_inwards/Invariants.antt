use Rattle.std.proofs.Common.{◌+◌}
use Rattle.cs_least.specs.Embed.Ways.{AreInwardsTo}
use Rattle.cs_least.proofs.embed.inwards.all_inwards.Given as goal

abbrev pub invariant-loop-place : goal.invariant-loop-place
invariant-loop-place l = AreInwardsTo l.costs.weights l.costs.grammar (l.place + 1) 0 l.inwards.places.items l.inwards.steps.items
