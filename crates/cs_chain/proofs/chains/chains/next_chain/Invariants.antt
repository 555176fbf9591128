use Rattle.std.proofs.Common.{◌≡◌}
use Rattle.cs_chain.specs.Chains.Rest.{chains_left, steps_left, IsKept}
use Rattle.cs_chain.proofs.chains.chains.next_chain.Given as goal

abbrev pub invariant-loop-opened : goal.invariant-loop-opened
invariant-loop-opened l =
    (chains_left l.grammar l.fn.opened l.fn.contexts ≡ chains_left l.grammar l.opened l.contexts)
    × IsKept l.grammar l.opened l.contexts

abbrev pub decreases-loop-opened : goal.decreases-loop-opened
decreases-loop-opened l = steps_left l.opened l.contexts
