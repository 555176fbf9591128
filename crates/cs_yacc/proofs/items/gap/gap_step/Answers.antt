-- A blank or a closed comment is a gap; where neither stands, there is no gap.
use Rattle.std.proofs.Common.{sym, ap, ◌∙◌}
use Rattle.cs_bytes.specs.Classes.{is_white_space}
use Rattle.cs_bytes.specs.Places.{front}
use Rattle.cs_yacc.proofs.OnItems.Gaps.{blank_gap, comment_gap, no_gap_open}
use Rattle.cs_yacc.proofs.items.gap.gap_step.Goals as goal

pub returns-then-begins_blank-clause-gap : goal.returns-then-begins_blank-clause-gap
returns-then-begins_blank-clause-gap c = blank_gap c.args.bytes.now c.args.at (ap (front is_white_space) (sym c.from_offset.ensures) ∙ (sym c.begins_blank.ensures ∙ c.if-begins_blank.true))

pub returns-clause-gap : goal.returns-clause-gap
returns-clause-gap c = comment_gap _ _ _ c.skip_comment.ensures.closed

pub returns-clause-none : goal.returns-clause-none
returns-clause-none c = no_gap_open _ _ (ap (front is_white_space) (sym c.from_offset.ensures) ∙ (sym c.begins_blank.ensures ∙ c.if-begins_blank.false)) c.skip_comment.ensures.unclosed
