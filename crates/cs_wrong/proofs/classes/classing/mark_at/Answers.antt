-- Behind the begin mark stand the tokens and the end mark.
use Rattle.cs_wrong.proofs.OnClasses.Framed.{end_mark, token_mark}
use Rattle.cs_wrong.proofs.classes.classing.mark_at.Goals as goal

pub returns-then-place-list : goal.returns-then-place-list
returns-then-place-list c = token_mark c.args.list.now c.args.place 0 c.if-place-eq0.false c.if-place-list.true

pub returns-else-place-list : goal.returns-else-place-list
returns-else-place-list c = end_mark c.args.list.now c.args.place c.if-place-list.false c.requires
