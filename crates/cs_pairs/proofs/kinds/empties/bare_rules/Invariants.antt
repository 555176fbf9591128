use Rattle.std.proofs.Common.{◌≡◌, take, map}
use Rattle.cs_pairs.specs.Kinds.Bare.{bare_rule}
use Rattle.cs_pairs.proofs.kinds.empties.bare_rules.Given as goal

abbrev pub invariant-loop-rule : goal.invariant-loop-rule
invariant-loop-rule l = l.rules.items ≡ map bare_rule (take l.rule-index l.rule-items)
