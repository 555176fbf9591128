use Rattle.std.proofs.Common.{◌≡◌, take}
use Rattle.cs_pattern.specs.Operations.Measures.{together}
use Rattle.cs_pattern.proofs.operations.measure.together.Given as goal

abbrev pub invariant-loop-part : goal.invariant-loop-part
invariant-loop-part l = l.all ≡ together (take l.part-index l.parts)
