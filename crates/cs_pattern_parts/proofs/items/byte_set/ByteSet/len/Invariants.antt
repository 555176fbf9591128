use Rattle.std.proofs.Common.{◌≡◌, length}
use Rattle.cs_pattern_parts.specs.Items.Members.{has, picked}
use Rattle.cs_pattern_parts.proofs.items.byte_set.ByteSet.len.Given as goal

abbrev pub invariant-loop-index : goal.invariant-loop-index
invariant-loop-index l = l.count ≡ length (picked (has l.self) l.index)
