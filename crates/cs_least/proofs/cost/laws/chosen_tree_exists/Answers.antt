-- A symbol with a tree has a chosen tree, which is a tree of it, and no tree of it is smaller.
use Rattle.cs_least.proofs.OnCost.ChosenTrees.{chosen_exists, IsTree-chosen, chosen_least}
use Rattle.cs_least.proofs.cost.laws.chosen_tree_exists.Goals as goal

pub returns-clause-exists : goal.returns-clause-exists
returns-clause-exists c w g x some = let u = chosen_exists w g x some.0 some.1 in (u.tree, u.chosen)

pub returns-clause-least : goal.returns-clause-least
returns-clause-least c w g x u chosen = record {
  is_tree = IsTree-chosen w g u x chosen;
  least = λ t is_tree. chosen_least w g x t u is_tree chosen;
}
