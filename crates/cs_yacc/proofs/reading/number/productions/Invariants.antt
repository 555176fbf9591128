use Rattle.std.proofs.Common.{◌≡◌, take, map}
use Rattle.cs_yacc.specs.Reading.Meaning.{production_of}
use Rattle.cs_yacc.specs.Reading.RuleView.{rules_in}
use Rattle.cs_yacc.specs.Reading.AcceptedView.{parts_at, words_at, IsNumbered}
use Rattle.cs_yacc.proofs.reading.number.productions.Given as goal

abbrev pub invariant-loop-rule : goal.invariant-loop-rule
invariant-loop-rule l =
    (l.rules.items ≡ map (production_of (parts_at l.file).tokens (parts_at l.file).nonterminals) (rules_in (words_at l.file) (take l.rule-index l.rule-items)))
    × IsNumbered l.file l.last
