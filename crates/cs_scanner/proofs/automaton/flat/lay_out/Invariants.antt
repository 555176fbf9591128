use Rattle.cs_scanner.specs.Automaton.Pieces.{pieces, work_in}
use Rattle.cs_scanner.proofs.OnAutomaton.Laying.{IsLaid}
use Rattle.cs_scanner.proofs.automaton.flat.lay_out.Given as goal

abbrev pub invariant-loop-piece : goal.invariant-loop-piece
invariant-loop-piece l = IsLaid (pieces l.initial.left) (pieces l.left) l.initial.ops l.ops l.initial.classes l.classes

abbrev pub decreases-loop-piece : goal.decreases-loop-piece
decreases-loop-piece l = work_in (pieces l.left)
