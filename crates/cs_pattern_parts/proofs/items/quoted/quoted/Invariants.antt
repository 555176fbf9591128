use Rattle.std.proofs.Common.{length, ◌-◌}
use Rattle.cs_pattern_parts.specs.Items.Quoted.{quoted_byte}
use Rattle.cs_pattern_parts.proofs.OnItems.Walking.{Walks}
use Rattle.cs_pattern_parts.proofs.OnItems.Moving.{quoted_moves}
use Rattle.cs_pattern_parts.proofs.items.quoted.quoted.Given as goal

abbrev pub invariant-loop-byte : goal.invariant-loop-byte
invariant-loop-byte l = Walks quoted_byte quoted_moves l.text l.bytes.items l.at

abbrev pub decreases-loop-byte : goal.decreases-loop-byte
decreases-loop-byte l = length l.text - l.at
