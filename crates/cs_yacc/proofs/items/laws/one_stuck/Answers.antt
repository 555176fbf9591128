-- Both offsets are the one that the walk through the table finds.
use Rattle.cs_yacc.proofs.OnItems.Stuck as lemmas
use Rattle.cs_yacc.proofs.items.laws.one_stuck.Goals as goal

pub returns : goal.returns
returns c = lemmas.one_stuck
