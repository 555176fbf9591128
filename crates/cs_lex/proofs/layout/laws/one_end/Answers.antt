-- The lines lead on in one way and not past the end, and lines with new names are such lines too.
use Rattle.cs_lex.proofs.OnLayout.Ending as lemmas
use Rattle.cs_lex.proofs.layout.laws.one_end.Goals as goal

pub returns-clause-one : goal.returns-clause-one
returns-clause-one c = lemmas.one_end

pub returns-clause-new_names : goal.returns-clause-new_names
returns-clause-new_names c = lemmas.layout_ends
