use Rattle.std.proofs.Common.{◌≡◌}
use Rattle.std.specs.Prelude.{◌&&◌, not, nat_lt}
use Rattle.cs_pattern_parts.specs.Items.Members.{bytes_where, has}
use Rattle.cs_pattern_parts.proofs.items.byte_set.ByteSet.complement.Given as goal

abbrev pub invariant-loop-index : goal.invariant-loop-index
invariant-loop-index l = l.others ≡ bytes_where (λ b. not (has l.self b) && nat_lt b l.index)
