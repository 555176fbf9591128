use Rattle.std.proofs.Common.{◌≡◌, [], map, take}
use Rattle.cs_pattern.specs.Operations.Building.{patterns}
use Rattle.cs_pattern.specs.Operations.Trees.{known_at}
use Rattle.cs_pattern.specs.Operations.Evaluation.{run}
use Rattle.cs_pattern.specs.Operations.Operations.{ops_of}
use Rattle.cs_pattern_parts.specs.Tree.Pattern.{regex}
use Rattle.cs_pattern.proofs.operations.building.build.Given as goal

abbrev pub invariant-loop-op : goal.invariant-loop-op
invariant-loop-op l = map regex l.stack.items ≡ run (patterns (known_at l.known.entries)) [] (ops_of (take l.op-index l.ops))
