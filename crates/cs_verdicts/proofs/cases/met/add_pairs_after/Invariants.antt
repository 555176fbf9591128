use Rattle.cs_verdicts.proofs.OnCases.Inside.{ArePairsSoFar}
use Rattle.std.proofs.Common.{drop}
use Rattle.cs_verdicts.proofs.cases.met.add_pairs_after.Given as goal

abbrev pub invariant-loop-right : goal.invariant-loop-right
invariant-loop-right l = ArePairsSoFar l.first l.tokens l.left (drop l.right-index l.tokens) l.case l.fn.firsts l.firsts
