-- The number is the longest run of digits.
use Rattle.cs_yacc.proofs.OnItems.Begin.{number_is}
use Rattle.cs_yacc.proofs.items.item.number_at.Goals as goal

pub returns : goal.returns
returns c = number_is _ _ c.requires c.run_len-size.ensures.len
