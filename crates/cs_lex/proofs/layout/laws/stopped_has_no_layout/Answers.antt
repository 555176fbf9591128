-- The walk over the lines halts at one place, and where a section ends there is no fault.
use Rattle.cs_lex.proofs.OnLayout.Uniqueness as lemmas
use Rattle.cs_lex.proofs.layout.laws.stopped_has_no_layout.Goals as goal

pub returns : goal.returns
returns c = lemmas.stopped_has_no_layout
