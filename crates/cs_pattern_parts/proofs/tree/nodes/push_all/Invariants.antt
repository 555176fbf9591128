use Rattle.std.proofs.Common.{◌≡◌, ◌++◌, map, take}
use Rattle.cs_pattern_parts.specs.Tree.Nodes.{values}
use Rattle.cs_pattern_parts.specs.Tree.Pattern.{regex}
use Rattle.cs_pattern_parts.proofs.tree.nodes.push_all.Given as goal

abbrev pub invariant-loop-part : goal.invariant-loop-part
invariant-loop-part l = values l.pending.items ≡ values l.initial.pending.items ++ map regex (take l.part-index l.parts)
