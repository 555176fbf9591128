-- The members end at one place: a `]` there closes the bracket, and without it none is closed.
use Rattle.std.proofs.Common.{sym, ◌∙◌}
use Rattle.cs_lex.proofs.OnLayout.Units.{bracket_is, no_bracket}
use Rattle.cs_lex.proofs.layout.bracket.bracket_size.Goals as goal

pub returns-then-has_at-clause-closed : goal.returns-then-has_at-clause-closed
returns-then-has_at-clause-closed c = bracket_is _ _ _ _ c.requires c.opening_size-opening.ensures.size c.from_offset-rest.ensures c.members_len-inside.ensures.units (sym c.has_at.ensures ∙ c.if-has_at.true)

pub returns-else-has_at-clause-unclosed : goal.returns-else-has_at-clause-unclosed
returns-else-has_at-clause-unclosed c = no_bracket _ _ _ _ c.requires c.opening_size-opening.ensures.size c.from_offset-rest.ensures c.members_len-inside.ensures.units c.members_len-inside.ensures.ends (sym c.has_at.ensures ∙ c.if-has_at.false)
