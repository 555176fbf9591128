-- Each entry is counted once.
use Rattle.cs_wrong.proofs.OnWriting.OneWrong.{add_up}
use Rattle.cs_wrong.proofs.writing.laws.slips_add_up.Goals as goal

pub returns : goal.returns
returns c = add_up
