use Rattle.std.proofs.Common.{◌≡◌}
use Rattle.std.specs.Prelude.{◌&&◌, nat_lt}
use Rattle.cs_pattern_parts.specs.Items.Members.{bytes_where}
use Rattle.cs_pattern_parts.specs.Items.NamedClasses.{is_in_class}
use Rattle.cs_pattern_parts.proofs.items.bracket.class_bytes.Given as goal

abbrev pub invariant-loop-index : goal.invariant-loop-index
invariant-loop-index l = l.set ≡ bytes_where (λ b. is_in_class l.class b && nat_lt b l.index)
