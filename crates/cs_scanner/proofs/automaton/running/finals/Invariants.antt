-- The steps behind are walked.
use Rattle.std.proofs.Common.{◌≡◌, ◌≤◌, ◌-◌, drop}
use Rattle.cs_scanner.specs.Automaton.Bits.{bit}
use Rattle.cs_scanner.specs.Automaton.Runs.{backward_of, start_back}
use Rattle.cs_scanner.specs.Automaton.Walks.{back_all}
use Rattle.cs_scanner.proofs.automaton.running.finals.Given as goal

abbrev pub invariant-loop-i : goal.invariant-loop-i
invariant-loop-i l = record {
  within : l.i ≤ l.steps;
  walked : backward_of l.walk ≡ back_all (bit l.set) (drop (l.steps - l.i) l.rule.ops.items) start_back;
}
