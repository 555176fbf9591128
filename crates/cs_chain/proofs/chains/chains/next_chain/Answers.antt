-- Where nothing is open, no chain is left.
use Rattle.std.proofs.Common.{◌∙◌}
use Rattle.cs_chain.proofs.OnChains.Left.{ended}
use Rattle.cs_chain.proofs.chains.chains.next_chain.Goals as goal

pub returns-clause-chain : goal.returns-clause-chain
returns-clause-chain c =
    let none = ended c.args.grammar.now c.loop-opened.opened c.loop-opened.contexts c.loop-opened.invariant.1 c.in_default.not-Some in
    (c.loop-opened.invariant.0 ∙ none, none)
