-- Where two marks stand behind it, the next is a dash or not; else there are too few for a range.
use Rattle.std.proofs.Common.{◌+◌, ◌∙◌, sym, ap, arith}
use Rattle.std.proofs.lemmas.List.{get_or-map, length-map}
use Rattle.cs_pattern_parts.specs.Items.Brackets.{collating}
use Rattle.cs_pattern_parts.specs.Items.Views.{mark_of, marks_of}
use Rattle.cs_pattern_parts.specs.Items.Bracket.{is_dash}
use Rattle.cs_pattern_parts.proofs.OnItems.Membership.{begins_short, begins_long}
use Rattle.cs_pattern_parts.proofs.items.bracket.begins_range.Goals as goal

pub returns-then-index-marks-clause-value : goal.returns-then-index-marks-clause-value
returns-then-index-marks-clause-value c =
    c.is_dash.ensures ∙ ap is_dash (sym (get_or-map mark_of c.args.marks.now (c.args.index + 1) _ collating (omega arith)))
    ∙ sym (begins_long (marks_of c.args.marks.now) c.args.index (omega (arith, length-map c.args.marks.now mark_of)))

pub returns-else-index-marks-clause-value : goal.returns-else-index-marks-clause-value
returns-else-index-marks-clause-value c = sym (begins_short (marks_of c.args.marks.now) c.args.index (omega (arith, length-map c.args.marks.now mark_of)))
