-- The literal in front has one size, and where that isn't the text's, no literal fills the text.
use Rattle.std.proofs.Common.{length}
use Rattle.cs_lex.proofs.OnActions.MarksFound.{other_size}
use Rattle.cs_lex.proofs.actions.mark.literal_of.Goals as goal

pub returns-in_err-byte-clause-none : goal.returns-in_err-byte-clause-none
returns-in_err-byte-clause-none c = rw c.from_residual.ensures (λ b. c.in_err-byte.ensures.none b (length c.args.text.now))

pub returns-else-size-text-clause-none : goal.returns-else-size-text-clause-none
returns-else-size-text-clause-none c = other_size c.args.text.now c.in_ok-byte.byte c.in_ok-byte.size c.in_ok-byte.ensures.literal.0 c.if-size-text.false
