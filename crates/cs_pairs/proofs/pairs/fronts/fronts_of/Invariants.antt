use Rattle.std.proofs.Common.{◌-◌, take}
use Rattle.cs_least.specs.Cost.Least.{IsCost}
use Rattle.cs_pairs.specs.Kinds.Filled.{IsFilled}
use Rattle.cs_pairs.specs.Pairs.Fronts.{AreFront, front_size}
use Rattle.cs_pairs.proofs.pairs.fronts.fronts_of.Given as goal

abbrev pub invariant-loop-symbol : goal.invariant-loop-symbol
invariant-loop-symbol l = record {
  so_far : IsFilled l.embeds.weights.limit (λ n. AreFront l.embeds.grammar l.rule.left (take (n - 1) l.rule.right)) (front_size l.embeds.weights) l.symbol-index l.fronts.items;
  is_front : IsCost l.embeds.weights.limit (AreFront l.embeds.grammar l.rule.left (take l.symbol-index l.rule.right)) (front_size l.embeds.weights) l.front;
}
