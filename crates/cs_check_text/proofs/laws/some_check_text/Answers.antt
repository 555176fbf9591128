-- Without such a text a manifest would fail at no line, so it would pass, and have the text that says yes.
use Rattle.cs_check_text.proofs.SomeText.{some_text}
use Rattle.cs_check_text.proofs.laws.some_check_text.Goals as goal

pub returns : goal.returns
returns c = some_text
