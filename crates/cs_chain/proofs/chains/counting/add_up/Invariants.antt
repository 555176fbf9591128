use Rattle.std.proofs.Common.{◌≡◌, ◌*◌, ◌≤◌, ◌^◌, take}
use Rattle.std.specs.List.{sum_by}
use Rattle.cs_chain.specs.Chains.Counts.{chains_with}
use Rattle.cs_chain.proofs.chains.counting.add_up.Given as goal

abbrev pub invariant-loop-rule : goal.invariant-loop-rule
invariant-loop-rule l =
    (l.sum ≡ sum_by (chains_with l.grammar) (take l.rule-index l.grammar.rules)) × (l.sum ≤ l.rule-index * 2 ^ 40)
