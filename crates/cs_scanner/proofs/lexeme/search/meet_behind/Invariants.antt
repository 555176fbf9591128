use Rattle.cs_scanner.specs.Lexeme.Visits.{IsMidRow}
use Rattle.cs_scanner.proofs.lexeme.search.meet_behind.Given as goal

abbrev pub invariant-loop-i : goal.invariant-loop-i
invariant-loop-i l = IsMidRow l.steps.automaton.now l.place l.row l.fn.visits.items l.visits.items l.met l.i
