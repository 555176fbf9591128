-- Be it for a rule, a context or a pair, the chosen tree is one, and no tree that meets the goal is smaller.
use Rattle.cs_verdicts.proofs.OnPositive.Verdicts.{chosen_met, chosen_least_of, one_chosen_of}
use Rattle.cs_verdicts.proofs.positive.laws.chosen_tree_meets.Goals as goal

pub returns-clause-one : goal.returns-clause-one
returns-clause-one c = λ v goal t u h k. one_chosen_of v.weights v.grammar goal t u h k

pub returns-clause-least : goal.returns-clause-least
returns-clause-least c = λ v goal u h. record { is_met = chosen_met v.weights v.grammar goal u h; least = λ t is. chosen_least_of v.weights v.grammar goal t u is h }
