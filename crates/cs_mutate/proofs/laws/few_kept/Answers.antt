-- One more is kept where fewer are alike, and those are alike that have one operator and one left mark.
use Rattle.cs_mutate.proofs.Alike.{bounded, stays_few}
use Rattle.cs_mutate.proofs.laws.few_kept.Goals as goal

pub returns-clause-alike : goal.returns-clause-alike
returns-clause-alike c g w most before ns kept few are = stays_few g w most before ns kept few are

pub returns-clause-few : goal.returns-clause-few
returns-clause-few c tokens most ns lefts few = bounded tokens most ns lefts few
