-- Two percent signs are a mark.
use Rattle.std.proofs.Common.{sym, ◌∙◌}
use Rattle.cs_yacc.proofs.OnItems.Begin.{mark_is}
use Rattle.cs_yacc.proofs.items.item.percent_at.Goals as goal

pub returns-then-has_at : goal.returns-then-has_at
returns-then-has_at c = mark_is _ c.requires (sym c.has_at.ensures ∙ c.if-has_at.true)
