use Rattle.std.proofs.Common.{◌≡◌, map, replicate}
use Rattle.cs_pattern_parts.specs.Tree.Pattern.{regex}
use Rattle.cs_pattern.proofs.operations.building.copies.Given as goal

abbrev pub invariant-loop-i : goal.invariant-loop-i
invariant-loop-i l = map regex l.parts.items ≡ replicate l._i (regex l.inner)
