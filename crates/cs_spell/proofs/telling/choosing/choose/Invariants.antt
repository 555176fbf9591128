use Rattle.cs_spell.specs.Telling.Choosing.{IsBestBelow}
use Rattle.cs_spell.proofs.telling.choosing.choose.Given as goal

abbrev pub invariant-loop-place : goal.invariant-loop-place
invariant-loop-place l = IsBestBelow l.grammar l.judged l.wanted l.place l.best
