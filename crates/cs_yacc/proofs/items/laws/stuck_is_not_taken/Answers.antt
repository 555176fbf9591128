-- The walk through the table finds an offset where it stops, and none where it takes all.
use Rattle.cs_yacc.proofs.OnItems.Stuck as lemmas
use Rattle.cs_yacc.proofs.items.laws.stuck_is_not_taken.Goals as goal

pub returns : goal.returns
returns c = lemmas.stuck_not_taken
