-- The run of other bytes on the line ends at a `>`, or there is no tag.
use Rattle.std.proofs.Common.{sym, ◌∙◌}
use Rattle.cs_yacc.proofs.OnItems.Begin.{tag_is, no_tag}
use Rattle.cs_yacc.proofs.items.item.tag_at.Goals as goal

pub returns-then-has_at : goal.returns-then-has_at
returns-then-has_at c = tag_is _ _ _ c.requires c.from_offset-inside.ensures c.run_len-size.ensures.len (sym c.has_at.ensures ∙ c.if-has_at.true)

pub returns-else-has_at : goal.returns-else-has_at
returns-else-has_at c = no_tag _ _ _ c.requires c.from_offset-inside.ensures c.run_len-size.ensures.len (sym c.has_at.ensures ∙ c.if-has_at.false)
