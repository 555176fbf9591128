-- The walk over the lines halts at one place, and a place has one fault.
use Rattle.cs_lex.proofs.OnLayout.Uniqueness as lemmas
use Rattle.cs_lex.proofs.layout.laws.one_stop.Goals as goal

pub returns : goal.returns
returns c = lemmas.one_stop
