-- A tree that meets the chain comes apart at its nodes, and for each of its parts there is a chosen one.
use Rattle.cs_chain.proofs.OnJudging.Chosen.{chosen_exists}
use Rattle.cs_chain.proofs.judging.laws.chosen_tree_exists_for_chain.Goals as goal

pub returns : goal.returns
returns c = λ v chain has. chosen_exists v.weights v.grammar chain has.0 has.1
