-- Be it a rule, a context or a pair, a goal that some tree meets has a chosen one.
use Rattle.cs_verdicts.proofs.OnPositive.Verdicts.{chosen_exists_of}
use Rattle.cs_verdicts.proofs.positive.laws.chosen_tree_exists_for_goal.Goals as goal

pub returns : goal.returns
returns c = λ v goal is has. chosen_exists_of v.weights v.grammar goal has.0 is has.1
