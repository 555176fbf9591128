-- The lexemes, the bases, the classes of their edits and the texts are each one, and so is what is put of them.
use Rattle.cs_deep.proofs.OnWriting.OneDeep.{one_text_of}
use Rattle.cs_deep.proofs.writing.laws.one_deep.Goals as goal

pub returns : goal.returns
returns c = λ choice file. one_text_of choice file c.one_text.ensures
