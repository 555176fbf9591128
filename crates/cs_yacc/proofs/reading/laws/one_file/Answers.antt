-- The bytes have one list of items, and a list of items has one outcome.
use Rattle.cs_yacc.proofs.OnReading.OneFile as lemmas
use Rattle.cs_yacc.proofs.reading.laws.one_file.Goals as goal

pub returns : goal.returns
returns c = lemmas.one_file
