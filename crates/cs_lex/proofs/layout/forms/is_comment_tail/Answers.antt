-- What isn't empty and doesn't begin with a closed comment is no such tail.
use Rattle.std.proofs.Common.{sym, ◌∙◌}
use Rattle.cs_lex.proofs.OnLayout.Tails.{no_tail}
use Rattle.cs_lex.proofs.layout.forms.is_comment_tail.Goals as goal

pub returns-in-None-clause-no : goal.returns-in-None-clause-no
returns-in-None-clause-no c = λ e. no_tail c.args.line.now (sym c.is_empty.ensures ∙ c.if-is_empty.false) c.in-None.ensures.unclosed
