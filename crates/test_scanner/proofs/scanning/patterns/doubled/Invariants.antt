use Rattle.std.proofs.Common.{◌+◌, ◌≤◌}
use Rattle.cs_pattern.specs.Operations.Definitions.{total_bytes}
use Rattle.test_scanner.proofs.scanning.patterns.doubled.Given as goal

abbrev pub invariant-loop-letter : goal.invariant-loop-letter
invariant-loop-letter l = total_bytes l.definitions + l.free ≤ 1048576
