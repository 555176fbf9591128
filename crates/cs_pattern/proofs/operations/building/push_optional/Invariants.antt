use Rattle.std.proofs.Common.{◌≡◌, ◌++◌, map, replicate}
use Rattle.cs_pattern_parts.specs.Tree.Pattern.{regex}
use Rattle.cs_pattern_parts.specs.Tree.Repeated.{optional}
use Rattle.cs_pattern.proofs.operations.building.push_optional.Given as goal

abbrev pub invariant-loop-i : goal.invariant-loop-i
invariant-loop-i l = map regex l.parts.items ≡ map regex l.initial.parts.items ++ replicate l._i (optional (regex l.inner))
