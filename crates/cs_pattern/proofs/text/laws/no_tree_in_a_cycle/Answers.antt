-- What a definition reaches has a smaller tree, so one that reaches itself would have a tree smaller than its own.
use Rattle.cs_pattern.proofs.OnText.Cycles as cycles
use Rattle.cs_pattern.proofs.text.laws.no_tree_in_a_cycle.Goals as goal

pub returns : goal.returns
returns c = λ ds i r d tree is t. cycles.no_tree_in_cycle ds i d tree is t r
