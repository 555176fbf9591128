-- Accepted bytes are read to their end, taken by the table and give a file, so that no fault is left.
use Rattle.cs_yacc.proofs.OnReading.OneFile as lemmas
use Rattle.cs_yacc.proofs.reading.laws.refused_is_not_accepted.Goals as goal

pub returns : goal.returns
returns c = lemmas.refused_is_not_accepted
