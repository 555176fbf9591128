-- The first set that is added is the start's.
use Rattle.std.proofs.Common.{ap}
use Rattle.cs_scanner.specs.Automaton.Sets.{lists}
use Rattle.cs_scanner.proofs.OnAutomaton.Stating.{only_start, no_keys}
use Rattle.cs_scanner.proofs.automaton.states.start_sets.Goals as goal

pub returns-clause-start : goal.returns-clause-start
returns-clause-start c = λ rs.
    let made = c.in_ok-start.ensures.items_if_clones_equal (λ y e. e) in
    only_start rs c.args.width _ (lists c.new-sets.result.keys) (lists c.add.new.sets.keys) c.in_ok-start.start.items (ap lists (no_keys c.new-sets.result.keys c.new-sets.ensures.len)) made c.in_ok-add.ensures.kept c.in_ok-add.ensures.found
