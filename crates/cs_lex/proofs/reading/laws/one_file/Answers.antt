-- Bytes have one layout, and its rules have one list of patterns and one of kinds, beside one of literals.
use Rattle.cs_lex.proofs.OnReading.OneFile as lemmas
use Rattle.cs_lex.proofs.reading.laws.one_file.Goals as goal

pub returns : goal.returns
returns c = lemmas.one_file
