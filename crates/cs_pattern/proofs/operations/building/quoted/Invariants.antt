use Rattle.std.proofs.Common.{◌≡◌, map, take}
use Rattle.cs_pattern_parts.specs.Tree.Pattern.{regex}
use Rattle.cs_pattern_parts.specs.Tree.Repeated.{one_byte}
use Rattle.cs_pattern.proofs.operations.building.quoted.Given as goal

abbrev pub invariant-loop-byte : goal.invariant-loop-byte
invariant-loop-byte l = map regex l.parts.items ≡ map one_byte (take l.byte-index l.bytes)
