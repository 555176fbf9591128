-- Two chosen trees of a symbol are the same tree.
use Rattle.cs_least.proofs.OnCost.ChosenTrees.{one_chosen}
use Rattle.cs_least.proofs.cost.laws.one_chosen_tree.Goals as goal

pub returns : goal.returns
returns c = λ w g x t u ht hu. one_chosen w g t u x ht hu
