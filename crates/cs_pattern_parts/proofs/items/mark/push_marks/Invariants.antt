use Rattle.std.proofs.Common.{◌≡◌, ◌++◌, List, length, ◌-◌, ◌+◌}
use Rattle.cs_bytes.specs.Classes.{is_inner}
use Rattle.cs_bytes.specs.Places.{EndsRun}
use Rattle.cs_pattern_parts.specs.Items.Marks.{mark}
use Rattle.cs_pattern_parts.specs.Items.Brackets.{BracketMark}
use Rattle.cs_pattern_parts.specs.Items.Views.{marks_of}
use Rattle.cs_pattern_parts.proofs.OnItems.Walking.{Walks}
use Rattle.cs_pattern_parts.proofs.OnItems.Moving.{mark_moves}
use Rattle.cs_pattern_parts.proofs.items.mark.push_marks.Given as goal

abbrev pub invariant-loop-mark : goal.invariant-loop-mark
invariant-loop-mark l =
    (xs : List BracketMark) × (marks_of l.marks.items ≡ marks_of l.initial.marks.items ++ xs) × Walks mark mark_moves l.text xs l.at × EndsRun is_inner l.text (l.at + 2) l.end

abbrev pub decreases-loop-mark : goal.decreases-loop-mark
decreases-loop-mark l = length l.text - l.at
