-- What the quote begins is a literal where one can be read, and nothing otherwise.
use Rattle.cs_yacc.proofs.OnItems.Begin.{literal_is, no_literal}
use Rattle.cs_yacc.proofs.items.item.literal_at.Goals as goal

pub returns-in-Some : goal.returns-in-Some
returns-in-Some c = literal_is _ _ _ c.requires c.in-Some.ensures.literal c.in-Some.ensures.within.1

pub returns-in-None : goal.returns-in-None
returns-in-None c = no_literal _ c.requires c.in-None.ensures.none
