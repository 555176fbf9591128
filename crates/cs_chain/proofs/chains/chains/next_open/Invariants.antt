use Rattle.std.proofs.Common.{◌≡◌, ◌≤◌, length}
use Rattle.std.specs.List.{flat_map}
use Rattle.cs_chain.specs.Chains.Chains.{chains_from}
use Rattle.cs_chain.proofs.chains.chains.next_open.Given as goal

abbrev pub invariant-loop-goal : goal.invariant-loop-goal
invariant-loop-goal l =
    (flat_map (chains_from l.grammar) l.fn.contexts ≡ flat_map (chains_from l.grammar) l.contexts)
    × (length l.contexts ≤ length l.fn.contexts)

abbrev pub decreases-loop-goal : goal.decreases-loop-goal
decreases-loop-goal l = length l.contexts
