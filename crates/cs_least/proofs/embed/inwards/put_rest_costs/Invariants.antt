use Rattle.std.proofs.Common.{◌≡◌, ℕ, ◌+◌, ◌≤◌, length, drop, get_or}
use Rattle.cs_least.specs.declared.cost.cost.Cost.TheVariants.{Never}
use Rattle.cs_least.specs.Cost.Trees.{AreTreesCost}
use Rattle.cs_least.proofs.embed.inwards.put_rest_costs.Given as goal

abbrev pub invariant-loop-place : goal.invariant-loop-place
invariant-loop-place l = record {
  many : length l.rest.items ≡ length l.symbols + 1;
  each : (k : ℕ) → l.place ≤ k → k ≤ length l.symbols → AreTreesCost l.costs (drop k l.symbols) (get_or l.rest.items k Never);
}
