-- The bytes inside end at one place: a quote there closes the text, and without it none is closed.
use Rattle.std.proofs.Common.{sym, ◌∙◌}
use Rattle.cs_lex.proofs.OnLayout.Units.{quoted_is, no_quoted}
use Rattle.cs_lex.proofs.layout.quoted.quoted_size.Goals as goal

pub returns-then-has_at-clause-closed : goal.returns-then-has_at-clause-closed
returns-then-has_at-clause-closed c = quoted_is _ _ _ c.requires c.from_offset-rest.ensures c.quoted_len-inside.ensures.units (sym c.has_at.ensures ∙ c.if-has_at.true)

pub returns-else-has_at-clause-unclosed : goal.returns-else-has_at-clause-unclosed
returns-else-has_at-clause-unclosed c = no_quoted _ _ _ c.requires c.from_offset-rest.ensures c.quoted_len-inside.ensures.units c.quoted_len-inside.ensures.ends (sym c.has_at.ensures ∙ c.if-has_at.false)
