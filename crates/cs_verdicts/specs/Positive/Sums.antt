-- Costs together. Working words of proofs.
use Rattle.std.specs.Prelude.{ℕ}
use Rattle.cs_least.specs.declared.cost.cost.Cost.{Cost}
use Rattle.cs_least.specs.Cost.Rank.{cost_of, plus}

-- a node above its children
abbrev pub node_cost : ℕ → Cost → Cost
node_cost limit children = plus limit (cost_of limit 1) children
