-- The classes so far.
use Rattle.std.proofs.Common.{take}
use Rattle.cs_scanner.specs.Automaton.Bits.{Puts}
use Rattle.cs_scanner.specs.Automaton.Programs.{values}
use Rattle.cs_scanner.specs.Automaton.States.{with_byte}
use Rattle.cs_scanner.proofs.automaton.columns.mark.Given as goal

abbrev pub invariant-loop-n : goal.invariant-loop-n
invariant-loop-n l = Puts l.initial.words l.words (with_byte 0 (take l.n (values l.classes)) l.byte)
