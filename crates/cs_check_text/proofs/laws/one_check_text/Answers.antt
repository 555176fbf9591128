-- A manifest has one outcome of its check, and an outcome one line.
use Rattle.cs_check_text.proofs.OneText.{one_text}
use Rattle.cs_check_text.proofs.laws.one_check_text.Goals as goal

pub returns : goal.returns
returns c = one_text
