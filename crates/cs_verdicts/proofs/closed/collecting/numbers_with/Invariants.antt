use Rattle.cs_verdicts.specs.Closed.Closed.{AreThose, numbers}
use Rattle.cs_verdicts.specs.Closed.Collecting.{Has}
use Rattle.cs_verdicts.proofs.closed.collecting.numbers_with.Given as goal

abbrev pub invariant-loop-place : goal.invariant-loop-place
invariant-loop-place l = AreThose (Has l.tables.grammar l.property) (numbers l.place) l.list.items
