-- A chosen tree is the chain's nodes with chosen parts around them, each the only one and a least one.
use Rattle.cs_chain.proofs.OnJudging.Chosen.{chosen_met, chosen_least, one_chosen}
use Rattle.cs_chain.proofs.judging.laws.chosen_tree_meets_chain.Goals as goal

pub returns-clause-one : goal.returns-clause-one
returns-clause-one c = λ v chain t u h k. one_chosen v.weights v.grammar chain t u h k

pub returns-clause-least : goal.returns-clause-least
returns-clause-least c = λ v chain u h. record { is_met = chosen_met v.weights v.grammar chain u h; least = λ t is. chosen_least v.weights v.grammar chain t u is h }
