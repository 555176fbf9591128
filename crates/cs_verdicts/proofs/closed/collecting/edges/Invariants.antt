use Rattle.std.specs.List.{AllZip}
use Rattle.cs_verdicts.specs.Closed.Closed.{AreThose, numbers}
use Rattle.cs_verdicts.specs.Closed.Collecting.{IsAtEdge}
use Rattle.cs_verdicts.proofs.closed.collecting.edges.Given as goal

abbrev pub invariant-loop-place : goal.invariant-loop-place
invariant-loop-place l = AllZip (λ n. AreThose (IsAtEdge l.tables.grammar l.edge n) (numbers l.tables.grammar.tokens)) (numbers l.place) l.sets.items
