-- Each word is what both words have.
use Rattle.std.proofs.Common.{arith}
use Rattle.cs_scanner.proofs.OnAutomaton.BitLemmas.{common_bits}
use Rattle.cs_scanner.proofs.automaton.bits.common.Goals as goal

pub returns-clause-bits : goal.returns-clause-bits
returns-clause-bits c =
    common_bits c.args.left.now c.args.right.now c.loop-k.words.items (omega (arith, c.loop-k.invariant.long)) c.requires
    (λ j lt. c.loop-k.invariant.each j (omega (arith, lt)))
