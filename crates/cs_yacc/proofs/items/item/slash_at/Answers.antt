-- A slash that opens a comment that isn't closed is open; any other begins no item.
use Rattle.cs_yacc.proofs.OnItems.Begin.{slash_open, slash_nothing}
use Rattle.cs_yacc.proofs.items.item.slash_at.Goals as goal

pub returns-then-opens_comment : goal.returns-then-opens_comment
returns-then-opens_comment c = slash_open _ c.requires.slash c.requires.no_comment (c.opens_comment.ensures.0 c.if-opens_comment.true)

pub returns-else-opens_comment : goal.returns-else-opens_comment
returns-else-opens_comment c = slash_nothing _ c.requires.slash (λ is. let t = c.opens_comment.ensures.1 is in cc)
