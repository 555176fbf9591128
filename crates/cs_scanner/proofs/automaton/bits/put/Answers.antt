-- The bit of the number is set.
use Rattle.cs_scanner.proofs.OnAutomaton.BitLemmas.{puts_one}
use Rattle.cs_scanner.proofs.automaton.bits.put.Goals as goal

pub returns-then-n-words : goal.returns-then-n-words
returns-then-n-words c = puts_one c.args.words.now c.args.n c.if-n-words.true
