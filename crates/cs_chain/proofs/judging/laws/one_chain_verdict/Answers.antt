-- Unlike verdicts contradict each other, and feasible ones have the least size and the one chosen tree's code.
use Rattle.cs_chain.proofs.OnJudging.Verdicts.{one_verdict}
use Rattle.cs_chain.proofs.judging.laws.one_chain_verdict.Goals as goal

pub returns : goal.returns
returns c = λ v chain a b h k. one_verdict v.weights v.grammar chain a b h k
