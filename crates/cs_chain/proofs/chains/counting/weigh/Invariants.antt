use Rattle.std.proofs.Common.{◌≡◌, ◌*◌, ◌≤◌, ◌^◌, take}
use Rattle.cs_chain.specs.Chains.Counts.{weight, in_table}
use Rattle.cs_chain.proofs.chains.counting.weigh.Given as goal

abbrev pub invariant-loop-symbol : goal.invariant-loop-symbol
invariant-loop-symbol l =
    (l.sum ≡ weight (in_table l.table) (take l.symbol-index l.right)) × (l.sum ≤ l.symbol-index * 2 ^ 33)
