use Rattle.std.proofs.Common.{reverse}
use Rattle.std.specs.List.{sum_by}
use Rattle.cs_least.specs.Cost.Parts.{IsGrown}
use Rattle.cs_least.proofs.OnCost.Written.{part_work, Writes}
use Rattle.cs_least.proofs.cost.writing.write_some.Given as goal

abbrev pub invariant-loop-symbol : goal.invariant-loop-symbol
invariant-loop-symbol l =
    Writes l.trees.weights l.trees.grammar l.trees.table (reverse l.initial.pending.items) l.initial.out (reverse l.pending.items) l.out
    × IsGrown l.initial.out l.out

abbrev pub decreases-loop-symbol : goal.decreases-loop-symbol
decreases-loop-symbol l = sum_by (part_work l.trees.weights l.trees.table) (reverse l.pending.items)
