-- Where the sign isn't in front, or more than a gap stands behind it, the action is no bar.
use Rattle.cs_lex.proofs.OnActions.BarsFound.{no_bar_sign, more_than_bar}
use Rattle.cs_lex.proofs.actions.kind.is_bar.Goals as goal

pub returns-in-Some-clause-no : goal.returns-in-Some-clause-no
returns-in-Some-clause-no c = λ e. more_than_bar c.args.action.now c.from_offset-rest.result.now c.in-Some.size c.gap_size.result c.in-Some.ensures.signed c.in-Some.ensures.within.1 c.from_offset-rest.ensures c.gap_size.ensures.gap c.gap_size.ensures.within e

pub returns-in-None-clause-no : goal.returns-in-None-clause-no
returns-in-None-clause-no c = λ e. no_bar_sign c.args.action.now c.in-None.ensures.none
