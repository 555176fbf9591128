use Rattle.std.proofs.Common.{◌≡◌, drop}
use Rattle.cs_verdicts.specs.Cases.CodeHash.{hash_code, hash_from}
use Rattle.cs_verdicts.proofs.cases.code.hash_code.Given as goal

abbrev pub invariant-loop-rule : goal.invariant-loop-rule
invariant-loop-rule l = hash_from l.hash (drop l.rule-index l.rules) ≡ hash_code l.rules
