use Rattle.cs_scanner.specs.Lexeme.Steps.{AreMidRows, rows_of}
use Rattle.cs_scanner.proofs.lexeme.steps.all_steps.Given as goal

abbrev pub invariant-loop-state : goal.invariant-loop-state
invariant-loop-state l = AreMidRows l.automaton l.state (rows_of l.rows.items) l.places.items
