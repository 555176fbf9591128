use Rattle.std.proofs.Common.{reverse}
use Rattle.cs_verdicts.proofs.OnCases.Inside.{IsInside}
use Rattle.cs_verdicts.proofs.cases.met.add_inside.Given as goal

abbrev pub invariant-loop-number : goal.invariant-loop-number
invariant-loop-number l =
    IsInside l.grammar l.number-items l.number-index (reverse l.spots.items) l.case l.fn.firsts l.firsts
