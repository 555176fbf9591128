-- Accepted bytes have a layout, so it stops nowhere, and nothing in it is at fault.
use Rattle.cs_lex.proofs.OnReading.OneRefusal as lemmas
use Rattle.cs_lex.proofs.reading.laws.refused_is_not_accepted.Goals as goal

pub returns : goal.returns
returns c = lemmas.refused_is_not_accepted
