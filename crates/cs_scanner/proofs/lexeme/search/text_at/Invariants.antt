use Rattle.cs_scanner.specs.Lexeme.Visits.{IsMidText}
use Rattle.cs_scanner.proofs.lexeme.search.text_at.Given as goal

abbrev pub invariant-origins : goal.invariant-origins
invariant-origins l = IsMidText l.visits l.place l.at l.bytes.items

abbrev pub decreases-origins : goal.decreases-origins
decreases-origins l = l.at
