use Rattle.std.proofs.Common.{◌≡◌, ◌++◌, length}
use Rattle.cs_lines.specs.Lines.Read.{numbers_in}
use Rattle.cs_check.proofs.checking.derivations.read_rules.Given as goal

abbrev pub invariant-loop-number : goal.invariant-loop-number
invariant-loop-number l = l.derivation ++ numbers_in l.rest ≡ numbers_in l.numbers

abbrev pub decreases-loop-number : goal.decreases-loop-number
decreases-loop-number l = length (numbers_in l.rest)
