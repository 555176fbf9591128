-- They are the sets of the tables.
use Rattle.std.proofs.Common.{subst}
use Rattle.cs_scanner.specs.Automaton.Machine.{Machine, HasOwnSets}
use Rattle.cs_scanner.specs.Automaton.Sets.{lists}
use Rattle.cs_scanner.specs.Automaton.States.{option_lists}
use Rattle.cs_scanner.proofs.OnAutomaton.Answering.{own_sets}
use Rattle.cs_scanner.proofs.automaton.automaton.Automaton.state_count.Goals as goal

pub returns-clause-sets : goal.returns-clause-sets
returns-clause-sets c =
    let inside = c.self.inside in
    subst (λ (m : Machine). HasOwnSets m) c.self.view_is
    (own_sets inside.patterns.now (lists inside.sets.keys) (option_lists inside.steps.items) inside.column_of.items (lists inside.rules.items) c.self.invariant)
