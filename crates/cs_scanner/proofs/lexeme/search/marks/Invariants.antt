use Rattle.cs_scanner.specs.Lexeme.Visits.{AreMarkedUpTo}
use Rattle.cs_scanner.proofs.lexeme.search.marks.Given as goal

abbrev pub invariant-loop-i : goal.invariant-loop-i
invariant-loop-i l = AreMarkedUpTo l.count l.visits l.i l.met.items
