-- The first `%}` behind the opener ends the prologue; without one it is open.
use Rattle.cs_yacc.proofs.OnItems.Begin.{prologue_is, prologue_open}
use Rattle.cs_yacc.proofs.items.item.prologue_at.Goals as goal

pub returns-in-Some : goal.returns-in-Some
returns-in-Some c = prologue_is _ _ _ c.requires.percent c.requires.brace c.from_offset.ensures c.in-Some.ensures.found

pub returns-in-None : goal.returns-in-None
returns-in-None c = prologue_open _ _ c.requires.percent c.requires.brace c.from_offset.ensures c.in-None.ensures.none
