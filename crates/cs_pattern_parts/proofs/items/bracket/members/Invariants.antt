use Rattle.std.proofs.Common.{length, ◌-◌}
use Rattle.cs_pattern_parts.specs.Items.Views.{marks_of}
use Rattle.cs_pattern_parts.proofs.OnItems.Membership.{Gathers}
use Rattle.cs_pattern_parts.proofs.items.bracket.members.Given as goal

abbrev pub invariant-loop-index : goal.invariant-loop-index
invariant-loop-index l = Gathers (marks_of l.marks) l.set l.index

abbrev pub decreases-loop-index : goal.decreases-loop-index
decreases-loop-index l = length l.marks - l.index
