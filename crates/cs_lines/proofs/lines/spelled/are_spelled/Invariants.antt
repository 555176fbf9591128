use Rattle.std.proofs.Common.{◌↔◌, length}
use Rattle.cs_lines.specs.Lines.Spelled.{AreSpelled}
use Rattle.cs_lines.proofs.lines.spelled.are_spelled.Given as goal

abbrev pub invariant-loop-front : goal.invariant-loop-front
invariant-loop-front l = AreSpelled l.rest ↔ AreSpelled l.spelled

abbrev pub decreases-loop-front : goal.decreases-loop-front
decreases-loop-front l = length l.rest
