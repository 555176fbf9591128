use Rattle.cs_lexical.specs.Least.{lists}
use Rattle.cs_lexical.specs.Noting.{AreBlank}
use Rattle.cs_lexical.proofs.noting.no_rows.Given as goal

abbrev pub invariant-loop-place : goal.invariant-loop-place
invariant-loop-place l = AreBlank l.rules l.place (lists l.rows.items)
