-- The set into which a newline was put has it alone, so the complement has every other byte.
use Rattle.std.proofs.Common.{◌∙◌, ap}
use Rattle.std.specs.Prelude.{not}
use Rattle.cs_pattern_parts.specs.Items.Items.{class}
use Rattle.cs_pattern_parts.proofs.OnItems.Picked.{same_picked, only_one}
use Rattle.cs_pattern_parts.proofs.items.front.any_byte.Goals as goal

pub returns : goal.returns
returns c = ap class (c.complement.ensures ∙ same_picked _ _ 256 (λ b lt. ap not (only_one 10 b _ _ c.new-newline.ensures c.insert.ensures lt)))
