-- The first byte begins a name, and the name is the longest run of its bytes.
use Rattle.cs_yacc.proofs.OnItems.Begin.{name_is}
use Rattle.cs_yacc.proofs.items.item.name_at.Goals as goal

pub returns : goal.returns
returns c = name_is _ _ c.requires c.name_len-size.ensures.len
