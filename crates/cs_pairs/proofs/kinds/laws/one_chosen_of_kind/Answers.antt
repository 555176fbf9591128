-- Two chosen trees have the same root and chosen children alike, and of any yield they are the symbol's.
use Rattle.cs_pairs.proofs.OnKinds.ChosenKinds.{one_of_kind, any_chosen, chosen_any}
use Rattle.cs_pairs.proofs.kinds.laws.one_chosen_of_kind.Goals as goal

pub returns-clause-one : goal.returns-clause-one
returns-clause-one c = λ v k x t u ht hu. one_of_kind v.weights v.grammar t u k x ht hu

pub returns-clause-any : goal.returns-clause-any
returns-clause-any c = λ v x t. (any_chosen v.weights v.grammar t x, chosen_any v.weights v.grammar t x)
