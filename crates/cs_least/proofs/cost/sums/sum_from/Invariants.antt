use Rattle.std.proofs.Common.{◌≡◌, drop}
use Rattle.cs_least.specs.Cost.Rank.{IsCapped, sum_from}
use Rattle.cs_least.specs.Cost.Trees.{cost_in}
use Rattle.cs_least.proofs.cost.sums.sum_from.Given as goal

-- the sum so far, with what is left, is the whole sum
abbrev pub invariant-loop-symbol : goal.invariant-loop-symbol
invariant-loop-symbol l = record {
  is_capped : IsCapped l.weights.limit l.sum;
  whole : sum_from l.weights.limit (cost_in l.weights l.table) l.sum (drop l.symbol-index l.symbols) ≡ sum_from l.weights.limit (cost_in l.weights l.table) l.fn.start l.symbols;
}
