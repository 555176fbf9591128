-- A line defines a name only where the definitions before it lack that name.
use Rattle.cs_lex.proofs.OnLayout.NewNames as lemmas
use Rattle.cs_lex.proofs.layout.laws.new_names.Goals as goal

pub returns : goal.returns
returns c = lemmas.new_names
