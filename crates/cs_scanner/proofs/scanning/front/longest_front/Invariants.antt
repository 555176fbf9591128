-- The state of what was read, and the best match so far.
use Rattle.std.proofs.Common.{◌<◌, take, length}
use Rattle.cs_scanner.specs.Automaton.Machine.{StateOf, patterns_of}
use Rattle.cs_scanner.specs.Scan.Best.{IsBest}
use Rattle.cs_scanner.proofs.scanning.front.longest_front.Given as goal

abbrev pub invariant-loop-i : goal.invariant-loop-i
invariant-loop-i l = record {
  within : l.state < length l.automaton.sets;
  stands : StateOf l.automaton l.state (take l.i l.text);
  best : IsBest (patterns_of l.automaton) l.text l.i l.best;
}
