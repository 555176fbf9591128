-- An open comment is no mark, and a closed one in front is the mark that its text says.
use Rattle.cs_lex.proofs.OnActions.MarksFound.{no_mark_open, front_found}
use Rattle.cs_lex.proofs.actions.mark.mark_at.Goals as goal

pub returns-in_err-size : goal.returns-in_err-size
returns-in_err-size c = rw c.from_residual.ensures (no_mark_open c.args.text.now c.in_err-size.ensures.unclosed)

pub returns : goal.returns
returns c = front_found c.args.text.now c.to_offset.result.now c.in_ok-size.size c.mark_of.result c.in_ok-size.ensures.closed c.to_offset.ensures c.mark_of.ensures
