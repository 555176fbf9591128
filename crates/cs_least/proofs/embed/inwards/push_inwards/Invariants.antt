use Rattle.std.proofs.Common.{take}
use Rattle.cs_least.specs.Cost.Trees.{AreTreesCost}
use Rattle.cs_least.specs.Embed.Ways.{AreInwardsTo}
use Rattle.cs_least.proofs.embed.inwards.push_inwards.Given as goal

abbrev pub invariant-loop-place : goal.invariant-loop-place
invariant-loop-place l = record {
  before : AreTreesCost l.costs (take l.place l.right) l.before;
  inwards : AreInwardsTo l.costs.weights l.costs.grammar l.number l.place l.inwards.places.items l.inwards.steps.items;
}
