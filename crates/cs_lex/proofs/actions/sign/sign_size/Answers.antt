-- The gap in front has one end, and where the sign isn't there, none stands behind a gap.
use Rattle.std.proofs.Common.{sym, ◌∙◌}
use Rattle.cs_bytes.specs.Classes.{is_in}
use Rattle.cs_lex.proofs.OnActions.GapEnds.{no_sign}
use Rattle.cs_lex.proofs.actions.sign.sign_size.Goals as goal

pub returns-else-has_at-clause-none : goal.returns-else-has_at-clause-none
returns-else-has_at-clause-none c = no_sign (is_in c.args.class) c.requires c.args.sign c.args.text.now c.gap_size-gap.result c.gap_size-gap.ensures.gap (sym c.has_at.ensures ∙ c.if-has_at.false)
