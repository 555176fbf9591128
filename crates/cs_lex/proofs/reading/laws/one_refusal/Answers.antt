-- Layout stops in one way or never, and one layout has one fault that is told.
use Rattle.cs_lex.proofs.OnReading.OneRefusal as lemmas
use Rattle.cs_lex.proofs.reading.laws.one_refusal.Goals as goal

pub returns : goal.returns
returns c = lemmas.one_refusal
