use Rattle.std.proofs.Common.{◌≡◌, drop}
use Rattle.std.specs.List.{list_any}
use Rattle.cs_pattern_parts.specs.Items.Bracket.{is_collating}
use Rattle.cs_pattern_parts.specs.Items.Views.{marks_of}
use Rattle.cs_pattern_parts.proofs.items.bracket.has_collating.Given as goal

abbrev pub invariant-loop-mark : goal.invariant-loop-mark
invariant-loop-mark l = list_any is_collating (marks_of (drop l.mark-index l.marks)) ≡ list_any is_collating (marks_of l.marks)
