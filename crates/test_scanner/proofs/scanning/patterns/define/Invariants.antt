use Rattle.std.proofs.Common.{◌+◌, ◌≤◌}
use Rattle.cs_pattern.specs.Operations.Definitions.{total_bytes}
use Rattle.test_scanner.proofs.scanning.patterns.define.Given as goal

abbrev pub invariant-loop-name : goal.invariant-loop-name
invariant-loop-name l = total_bytes l.definitions + l.free ≤ 1048576
