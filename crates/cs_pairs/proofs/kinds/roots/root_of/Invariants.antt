use Rattle.cs_least.specs.Cost.Rank.{rank}
use Rattle.cs_pairs.proofs.OnKinds.Roots.{NoRootIn}
use Rattle.cs_pairs.proofs.kinds.roots.root_of.Given as goal

abbrev pub invariant-loop-number : goal.invariant-loop-number
invariant-loop-number l = NoRootIn l.kinds.weights l.kinds.grammar l.rows.kind l.number-items (rank l.kinds.weights.limit l.cost) l.number-index
