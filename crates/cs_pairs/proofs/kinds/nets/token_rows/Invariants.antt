use Rattle.cs_pairs.specs.Kinds.Sides.{kind_on}
use Rattle.cs_pairs.specs.Kinds.Tables.{AreCostRows}
use Rattle.cs_pairs.proofs.kinds.nets.token_rows.Given as goal

abbrev pub invariant-loop-place : goal.invariant-loop-place
invariant-loop-place l = AreCostRows l.costs.weights l.costs.grammar (kind_on l.net.side) l.place l.rows.items
