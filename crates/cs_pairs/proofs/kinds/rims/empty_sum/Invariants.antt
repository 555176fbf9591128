use Rattle.std.proofs.Common.{drop}
use Rattle.cs_least.specs.Cost.Rank.{IsCapped}
use Rattle.cs_pairs.specs.declared.kinds.kind.TreeKind.TheVariants.{Empty}
use Rattle.cs_pairs.specs.Kinds.KindCost.{AreKindCost}
use Rattle.cs_pairs.proofs.kinds.rims.empty_sum.Given as goal

abbrev pub invariant-loop-place : goal.invariant-loop-place
invariant-loop-place l = record {
  cost : AreKindCost l.bases Empty (drop l.place l.symbols) l.sum;
  capped : IsCapped l.bases.weights.limit l.sum;
}
