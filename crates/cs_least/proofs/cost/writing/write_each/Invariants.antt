use Rattle.std.proofs.Common.{drop}
use Rattle.cs_least.specs.Cost.Parts.{IsGrown}
use Rattle.cs_least.proofs.OnCost.Written.{Writes}
use Rattle.cs_least.proofs.cost.writing.write_each.Given as goal

abbrev pub invariant-loop-symbol : goal.invariant-loop-symbol
invariant-loop-symbol l =
    Writes l.trees.weights l.trees.grammar l.trees.table l.symbols l.fn.out (drop l.symbol-index l.symbols) l.out
    × IsGrown l.fn.out l.out
