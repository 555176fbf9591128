-- The rules so far.
use Rattle.std.proofs.Common.{take}
use Rattle.cs_scanner.specs.Automaton.Bits.{bit, Puts}
use Rattle.cs_scanner.specs.Automaton.Exits.{nexts}
use Rattle.cs_scanner.specs.Automaton.Places.{whole}
use Rattle.cs_scanner.specs.Automaton.Programs.{rules_of}
use Rattle.cs_scanner.specs.Automaton.States.{AreEnding}
use Rattle.cs_scanner.proofs.automaton.states.walk_all.Given as goal

abbrev pub invariant-loop-i : goal.invariant-loop-i
invariant-loop-i l = record {
  puts : Puts l.initial.next l.next (nexts (bit l.set) (whole (take l.i (rules_of l.program))) l.entered);
  are_ending : AreEnding (rules_of l.program) (bit l.set) l.entered l.i l.ending.items;
}
