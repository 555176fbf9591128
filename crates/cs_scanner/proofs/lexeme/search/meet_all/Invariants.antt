use Rattle.std.proofs.Common.{◌-◌, length}
use Rattle.cs_scanner.specs.Lexeme.Table.{step_rows}
use Rattle.cs_scanner.specs.Lexeme.Visits.{IsMidSearch}
use Rattle.cs_scanner.proofs.lexeme.search.meet_all.Given as goal

abbrev pub invariant-places : goal.invariant-places
invariant-places l = IsMidSearch l.steps.automaton.now (step_rows l.steps) l.from l.fn.visits.items l.visits.items l.met.items l.place

abbrev pub decreases-places : goal.decreases-places
decreases-places l = length l.steps.automaton.now.sets - l.place
