use Rattle.std.proofs.Common.{◌≡◌}
use Rattle.test_manifest.proofs.mutants.made.are_made.Given as goal

abbrev pub invariant-loop-row : goal.invariant-loop-row
invariant-loop-row l = l.made.making ≡ l.fn.maker
