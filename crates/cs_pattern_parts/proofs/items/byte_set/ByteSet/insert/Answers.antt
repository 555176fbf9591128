-- The byte's bit is set, and the other bits are as before.
use Rattle.std.proofs.Common.{◌∙◌, sym, ap, arith}
use Rattle.std.specs.Prelude.{◌==◌, ◌||◌}
use Rattle.cs_pattern_parts.specs.Items.Bits.{has_bit}
use Rattle.cs_pattern_parts.specs.Items.Members.{has}
use Rattle.cs_pattern_parts.proofs.OnItems.Picked.{has_picked, same_picked, bytes_where-set}
use Rattle.cs_pattern_parts.proofs.OnItems.Bit.{set_bit}
use Rattle.cs_pattern_parts.proofs.items.byte_set.ByteSet.insert.Goals as goal

pub returns : goal.returns
returns c =
    let words = c.self.inside.words in
    let byte = c.args.byte in
    same_picked _ _ 256 (λ b lt.
    set_bit words byte b (omega arith)
    ∙ ap (λ v. (b == byte) || v) (sym (has_picked (has_bit words) 256 b lt) ∙ ap (λ s. has s b) c.self.view_is))

pub invariant_of-self : goal.invariant_of-self
invariant_of-self c = bytes_where-set (has_bit _)
