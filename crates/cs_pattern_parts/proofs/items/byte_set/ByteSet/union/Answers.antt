-- A bit of joined words is set exactly where it is set in one of them.
use Rattle.std.proofs.Common.{◌∙◌, sym, ap}
use Rattle.std.specs.Prelude.{◌||◌}
use Rattle.cs_pattern_parts.specs.Items.Bits.{has_bit}
use Rattle.cs_pattern_parts.specs.Items.Members.{has}
use Rattle.cs_pattern_parts.proofs.OnItems.Picked.{has_picked, same_picked, bytes_where-set}
use Rattle.cs_pattern_parts.proofs.OnItems.Bit.{joined, joined_bit}
use Rattle.cs_pattern_parts.proofs.items.byte_set.ByteSet.union.Goals as goal

pub invariant_of-result : goal.invariant_of-result
invariant_of-result c = bytes_where-set (has_bit (joined c.self.inside.words c.other.inside.words))

pub returns : goal.returns
returns c =
    let v = c.self.inside.words in
    let w = c.other.inside.words in
    same_picked (has_bit (joined v w)) _ 256 (λ b lt.
    joined_bit v w b lt
    ∙ ap (λ x. x || has_bit w b) (sym (has_picked (has_bit v) 256 b lt) ∙ ap (λ s. has s b) c.self.view_is)
    ∙ ap (λ x. has c.args.self.now b || x) (sym (has_picked (has_bit w) 256 b lt) ∙ ap (λ s. has s b) c.other.view_is))
