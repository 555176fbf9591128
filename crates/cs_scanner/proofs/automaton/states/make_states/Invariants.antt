-- The states so far, and the steps and rules of the first of them.
use Rattle.std.proofs.Common.{◌≡◌, ◌-◌, ◌≤◌, length}
use Rattle.cs_scanner.specs.Automaton.Programs.{rules_of}
use Rattle.cs_scanner.specs.Automaton.Sets.{lists}
use Rattle.cs_scanner.specs.Automaton.States.{HasStates, IsStepped, AreRulesOf, option_lists}
use Rattle.cs_scanner.proofs.automaton.states.make_states.Given as goal

abbrev pub invariant-states : goal.invariant-states
invariant-states l = record {
  states : HasStates (rules_of l.program) l.width (lists l.sets.keys);
  few : length l.steps.items ≤ 16385;
  some : length l.steps.items ≤ length l.sets.keys;
  bounded : length l.sets.keys ≤ 20000;
  steps : IsStepped (rules_of l.program) (lists l.rows) (lists l.sets.keys) (option_lists l.steps.items);
  rules : AreRulesOf (rules_of l.program) (lists l.sets.keys) (lists l.rules.items);
  each : length l.rules.items ≡ length l.steps.items;
}

abbrev pub decreases-states : goal.decreases-states
decreases-states l = 16386 - length l.steps.items
