-- The steps before are walked.
use Rattle.std.proofs.Common.{◌≡◌, take}
use Rattle.cs_scanner.specs.Automaton.Bits.{bit, Puts}
use Rattle.cs_scanner.specs.Automaton.Runs.{forward_of, start_on}
use Rattle.cs_scanner.specs.Automaton.Walks.{go_all, put_all}
use Rattle.cs_scanner.proofs.automaton.running.walk_on.Given as goal

abbrev pub invariant-loop-i : goal.invariant-loop-i
invariant-loop-i l = record {
  walked : forward_of l.walk ≡ go_all (bit l.set) (take l.i l.ops) (start_on l.fn.entered l.fn.finals.items);
  puts : Puts l.initial.next l.next (put_all (bit l.set) (take l.i l.ops) (start_on l.fn.entered l.fn.finals.items));
}
