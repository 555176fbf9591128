-- A text that is no name spells the literal that fills it, or nothing.
use Rattle.std.proofs.Common.{sym, ◌∙◌}
use Rattle.cs_lex.proofs.OnActions.MarksFound.{not_spelled, literal_spelled}
use Rattle.cs_lex.proofs.actions.mark.spelled.Goals as goal

pub returns-in_err-byte : goal.returns-in_err-byte
returns-in_err-byte c = rw c.from_residual.ensures (not_spelled c.args.text.now (sym c.is_name.ensures ∙ c.if-is_name.false) c.in_err-byte.ensures.none)

pub returns : goal.returns
returns c = literal_spelled c.args.text.now c.in_ok-byte.byte c.in_ok-byte.ensures.found
