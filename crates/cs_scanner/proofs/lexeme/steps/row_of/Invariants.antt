use Rattle.cs_scanner.specs.Lexeme.Steps.{IsMidRowOf}
use Rattle.cs_scanner.proofs.lexeme.steps.row_of.Given as goal

abbrev pub invariant-loop-i : goal.invariant-loop-i
invariant-loop-i l = IsMidRowOf l.automaton l.state l.bytes l.i l.row.items l.places
