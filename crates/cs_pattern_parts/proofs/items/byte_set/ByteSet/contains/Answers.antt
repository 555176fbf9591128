-- The bit is the test by which the bytes are picked.
use Rattle.std.proofs.Common.{◌∙◌, sym, ap, arith, ◌/◌, ◌%◌, get_or, nat_eq}
use Rattle.std.proofs.lemmas.Nat.Bits.{shr_and_one}
use Rattle.cs_pattern_parts.specs.Items.Bits.{has_bit}
use Rattle.cs_pattern_parts.specs.Items.Members.{has}
use Rattle.cs_pattern_parts.proofs.OnItems.Picked.{has_picked}
use Rattle.cs_pattern_parts.proofs.items.byte_set.ByteSet.contains.Goals as goal

pub returns : goal.returns
returns c =
    let words = c.self.inside.words in
    let byte = c.args.byte in
    ap (λ z. nat_eq z 1) (shr_and_one (get_or words (byte / 64) 0) (byte % 64))
    ∙ sym (has_picked (has_bit words) 256 byte (omega arith))
    ∙ ap (λ v. has v byte) c.self.view_is
