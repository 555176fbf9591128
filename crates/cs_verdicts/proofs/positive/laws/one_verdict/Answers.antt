-- No tree, large trees alone and a least small one exclude one another, and that one's size and code are one.
use Rattle.cs_verdicts.proofs.OnPositive.Verdicts.{one_verdict_of}
use Rattle.cs_verdicts.proofs.positive.laws.one_verdict.Goals as goal

pub returns : goal.returns
returns c = λ v goal a b h k. one_verdict_of v.weights v.grammar goal a b h k
