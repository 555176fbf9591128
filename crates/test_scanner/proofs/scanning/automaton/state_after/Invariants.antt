use Rattle.std.proofs.Common.{◌<◌, length}
use Rattle.test_scanner.proofs.scanning.automaton.state_after.Given as goal

abbrev pub invariant-loop-i : goal.invariant-loop-i
invariant-loop-i l = l.state < length l.automaton.sets
