-- The word that is not 0 has a bit.
use Rattle.cs_scanner.proofs.OnAutomaton.BitLemmas.{some_bit}
use Rattle.cs_scanner.proofs.automaton.bits.is_empty.Goals as goal

pub returns-then-words-k-ne0-clause-other : goal.returns-then-words-k-ne0-clause-other
returns-then-words-k-ne0-clause-other c = λ e. some_bit c.args.words.now c.loop-k.k c.loop-k-test.true (c.type_inv.words c.loop-k.k).fits c.if-words-k-ne0.true
