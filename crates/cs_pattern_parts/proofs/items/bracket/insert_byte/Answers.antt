-- The test of a byte refuses none, and that byte alone passes it.
use Rattle.std.proofs.Common.{refl}
use Rattle.cs_pattern_parts.proofs.items.bracket.insert_byte.Goals as goal

pub returns-in-Some : goal.returns-in-Some
returns-in-Some c = (λ b. rw c.in-Some.is refl, rw c.in-Some.is c.insert.ensures)
