-- There are no more bases than there is room for, which is less than 2 ^ 32.
use Rattle.std.proofs.Common.{arith}
use Rattle.std.proofs.lemmas.List.{length-map}
use Rattle.cs_writing.specs.Bases.Bases.{base_in}
use Rattle.cs_writing.proofs.bases.bases.Bases.len.Goals as goal

pub overflow_cast-result : goal.overflow_cast-result
overflow_cast-result c = omega (arith, c.len.ensures.len, c.self.invariant.0, c.self.invariant.1, length-map c.self.inside.goals.entries base_in)
