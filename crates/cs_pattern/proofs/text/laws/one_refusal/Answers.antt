-- Of two refusals neither index is the lower one, and at one index there is one fault; accepted texts have none.
use Rattle.cs_pattern.proofs.OnText.OneRefusal.{one_refusal, no_refusal}
use Rattle.cs_pattern.proofs.OnText.Pairs.{pair_is}
use Rattle.cs_pattern.proofs.text.laws.one_refusal.Goals as goal

pub returns-clause-refusal : goal.returns-clause-refusal
returns-clause-refusal c = λ ds x y s t. let e = one_refusal ds x.0 y.0 x.1 y.1 s t in pair_is x y e.0 e.1

pub returns-clause-either : goal.returns-clause-either
returns-clause-either c = λ ds accepted r. no_refusal ds r.0.0 r.0.1 accepted r.1
