-- One edit more is one more in the count of its class alone.
use Rattle.cs_deep.proofs.OnWriting.Classing.{add_up}
use Rattle.cs_deep.proofs.writing.laws.classes_add_up.Goals as goal

pub returns : goal.returns
returns c = add_up
