-- Bytes are refused by a stop, by the table or by the outcome, in one of these ways and with one error.
use Rattle.cs_yacc.proofs.OnReading.OneFile as lemmas
use Rattle.cs_yacc.proofs.reading.laws.one_refusal.Goals as goal

pub returns : goal.returns
returns c = lemmas.one_refusal
