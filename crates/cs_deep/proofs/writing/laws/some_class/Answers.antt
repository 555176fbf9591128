-- A list is poisoned, or it is long, or it is a sentence, or it is outside.
use Rattle.cs_mutate.specs.Edit.{edited}
use Rattle.cs_deep.proofs.OnWriting.Classing.{some_class_of}
use Rattle.cs_deep.proofs.writing.laws.some_class.Goals as goal

pub returns : goal.returns
returns c = λ g base edit. some_class_of g (edited base edit)
