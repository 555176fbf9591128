-- A text has one reading, its items one derivation, and with definitions put in one tree, so one pattern or fault.
use Rattle.cs_pattern.proofs.OnText.OneAnswer.{one_pattern_of, one_fault, no_fault}
use Rattle.cs_pattern.proofs.OnText.PuttingIn.{one_tree_of}
use Rattle.cs_pattern.proofs.text.laws.one_answer.Goals as goal

pub returns-clause-tree : goal.returns-clause-tree
returns-clause-tree c = one_tree_of

pub returns-clause-pattern : goal.returns-clause-pattern
returns-clause-pattern c = λ ds text. one_pattern_of text ds

pub returns-clause-fault : goal.returns-clause-fault
returns-clause-fault c = λ ds text. one_fault text ds

pub returns-clause-either : goal.returns-clause-either
returns-clause-either c = λ ds text. no_fault text ds
