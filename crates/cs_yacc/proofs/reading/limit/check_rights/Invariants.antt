use Rattle.std.proofs.Common.{◌≡◌, drop}
use Rattle.cs_yacc.specs.Reading.Meaning.{long_right}
use Rattle.cs_yacc.specs.Reading.RuleView.{rules_in}
use Rattle.cs_yacc.proofs.reading.limit.check_rights.Given as goal

abbrev pub invariant-loop-rule : goal.invariant-loop-rule
invariant-loop-rule l =
    long_right (rules_in l.parts.words.now (drop l.rule-index l.rule-items)) ≡ long_right (rules_in l.parts.words.now l.parts.rules.items)
