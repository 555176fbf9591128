-- An edit has one negative or is harmless, and a list with a poisoned pair is no sentence.
use Rattle.cs_mutate.proofs.Marks.{outside}
use Rattle.cs_mutate.proofs.Listed.{next, done, one_list, members}
use Rattle.cs_mutate.specs.Edit.{edited}
use Rattle.cs_mutate.proofs.laws.one_list_of_negatives.Goals as goal

pub returns-clause-next : goal.returns-clause-next
returns-clause-next c g w old n new h rest are = next g w old n new h rest are

pub returns-clause-none : goal.returns-clause-none
returns-clause-none c g w left harmless = done g w left harmless

pub returns-clause-one : goal.returns-clause-one
returns-clause-one c g w es a b p q = one_list g w es a b p q

pub returns-clause-all : goal.returns-clause-all
returns-clause-all c g w es ns are n = members g w es ns n are

pub returns-clause-outside : goal.returns-clause-outside
returns-clause-outside c g w n negative sentence = outside g (edited w n.edit) n.at (n.left, n.right, negative) sentence
