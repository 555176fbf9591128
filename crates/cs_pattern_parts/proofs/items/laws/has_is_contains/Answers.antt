-- To have a byte is to contain it, either way.
use Rattle.cs_pattern_parts.proofs.OnItems.Picked.{has-contains, contains-has}
use Rattle.cs_pattern_parts.proofs.items.laws.has_is_contains.Goals as goal

pub returns : goal.returns
returns c = λ set byte. (has-contains set byte, contains-has set byte)
