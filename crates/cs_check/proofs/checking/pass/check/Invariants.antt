use Rattle.std.proofs.Common.{◌-◌, length}
use Rattle.cs_scanner.specs.Scan.Compared.{scanning}
use Rattle.cs_check.specs.Checking.Told.{checked_by}
use Rattle.cs_check.proofs.OnChecking.Pass.{IsPassed}
use Rattle.cs_check.proofs.checking.pass.check.Given as goal

abbrev pub invariant-loop-from : goal.invariant-loop-from
invariant-loop-from l = IsPassed (checked_by l.yacc (scanning l.scanner)) l.manifest l.from l.line l.above

abbrev pub decreases-loop-from : goal.decreases-loop-from
decreases-loop-from l = length l.manifest - l.from
