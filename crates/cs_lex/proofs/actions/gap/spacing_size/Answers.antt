-- What is neither a byte of the class nor a closed comment is no spacing.
use Rattle.std.proofs.Common.{sym, ◌∙◌}
use Rattle.cs_bytes.specs.Classes.{is_in}
use Rattle.cs_lex.proofs.OnActions.GapEnds.{no_spacing_there}
use Rattle.cs_lex.proofs.actions.gap.spacing_size.Goals as goal

pub returns-clause-none : goal.returns-clause-none
returns-clause-none c = no_spacing_there (is_in c.args.class) c.args.text.now c.skip_comment.result (sym c.begins.ensures ∙ c.if-begins.false) c.skip_comment.ensures.unclosed
