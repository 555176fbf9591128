use Rattle.std.proofs.Common.{◌≡◌, ◌<◌, ◌≤◌}
use Rattle.std.specs.Prelude.{◌&&◌, ◌||◌, nat_le, nat_lt}
use Rattle.cs_pattern_parts.specs.Items.Members.{has, bytes_where}
use Rattle.cs_pattern_parts.proofs.items.byte_set.ByteSet.insert_range.Given as goal

abbrev pub invariant-loop-index : goal.invariant-loop-index
invariant-loop-index l = record {
  added : l.self ≡ bytes_where (λ b. (nat_le l.first b && nat_lt b l.index) || has l.fn.self b);
  none : l.last < l.first → l.index ≤ l.first;
}
