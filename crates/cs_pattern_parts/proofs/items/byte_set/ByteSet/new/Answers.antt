-- No bit of four zeros is set, so no byte is picked.
use Rattle.std.proofs.Common.{refl, ◌∷◌, []}
use Rattle.cs_pattern_parts.specs.Items.Members.{picked}
use Rattle.cs_pattern_parts.specs.Items.Bits.{has_bit}
use Rattle.cs_pattern_parts.proofs.OnItems.Picked.{bytes_where-set}
use Rattle.cs_pattern_parts.proofs.items.byte_set.ByteSet.new.Goals as goal

pub returns : goal.returns
unfolding picked
returns c = refl

pub invariant_of-result : goal.invariant_of-result
invariant_of-result c = bytes_where-set (has_bit (0 ∷ 0 ∷ 0 ∷ 0 ∷ []))
