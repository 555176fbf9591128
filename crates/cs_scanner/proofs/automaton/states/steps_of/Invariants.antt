-- The steps over the rows so far.
use Rattle.std.proofs.Common.{◌≡◌, ◌≤◌, ◌+◌, ℕ, length, List}
use Rattle.cs_scanner.specs.Automaton.Re.{Re}
use Rattle.cs_scanner.specs.Automaton.Sets.{lists}
use Rattle.cs_scanner.specs.Automaton.States.{IsReady, AreRowsOf, HasSteps}
use Rattle.cs_scanner.proofs.automaton.states.steps_of.Given as goal

abbrev pub invariant-loop-column : goal.invariant-loop-column
invariant-loop-column l = record {
  count : length l.steps.items ≡ l.column;
  few : length l.sets.keys ≤ length l.initial.sets.keys + l.column;
  has : (rs : List (Re (List ℕ))) (width state : ℕ) → length l.next ≡ width → IsReady rs width (lists l.initial.sets.keys) state l.next → AreRowsOf rs width (lists l.rows) → HasSteps rs width (lists l.rows) (lists l.initial.sets.keys) (lists l.sets.keys) state l.next l.steps.items;
}
