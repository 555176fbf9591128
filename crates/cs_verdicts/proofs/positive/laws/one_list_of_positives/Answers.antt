-- The positives are in the goals' order, and each goal has one verdict.
use Rattle.cs_verdicts.proofs.OnPositive.Judged.{next, one_list}
use Rattle.cs_verdicts.proofs.positive.laws.one_list_of_positives.Goals as goal

pub returns-clause-next : goal.returns-clause-next
returns-clause-next c = λ old p new h rest are. next old.tables old.goals p new.goals h.goals h.verdict rest are

pub returns-clause-one : goal.returns-clause-one
returns-clause-one c = λ v left a b h k. one_list v left a b h k
