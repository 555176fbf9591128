-- Any trees stand behind the first token, and empty ones behind the last.
use Rattle.std.proofs.Common.{sym, subst}
use Rattle.cs_pairs.specs.Kinds.KindCost.{AreKindCost}
use Rattle.cs_pairs.specs.Kinds.Sides.{behind_on}
use Rattle.cs_pairs.proofs.kinds.rims.behind_cost.Goals as goal

pub returns-in-First-clause-cost : goal.returns-in-First-clause-cost
returns-in-First-clause-cost c = subst (λ s. AreKindCost c.args.bases.now (behind_on s) c.args.symbols.now c.any_sum.result) (sym c.in-First.is) c.any_sum.ensures.cost

pub returns-in-Last-clause-cost : goal.returns-in-Last-clause-cost
returns-in-Last-clause-cost c = subst (λ s. AreKindCost c.args.bases.now (behind_on s) c.args.symbols.now c.empty_sum.result) (sym c.in-Last.is) c.empty_sum.ensures.cost
