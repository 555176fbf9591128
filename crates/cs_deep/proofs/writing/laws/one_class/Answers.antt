-- Two classes differ in whether the list is poisoned, is long or is a sentence, so a list has but one.
use Rattle.cs_mutate.specs.Edit.{edited}
use Rattle.cs_deep.proofs.OnWriting.Classing.{one_class_of}
use Rattle.cs_deep.proofs.writing.laws.one_class.Goals as goal

pub returns : goal.returns
returns c = λ g base edit. one_class_of g (edited base edit)
