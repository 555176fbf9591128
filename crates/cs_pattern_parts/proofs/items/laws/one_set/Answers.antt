-- Sets ascend, and ascending lists with the same members are one.
use Rattle.cs_pattern_parts.proofs.OnItems.Picked.{same_set}
use Rattle.cs_pattern_parts.proofs.items.laws.one_set.Goals as goal

pub returns : goal.returns
returns c = λ s t p q h. same_set s t p q (λ b lt. h b lt)
