-- The right sides of the parts are short, and this rule is one of theirs.
use Rattle.std.proofs.Common.{◌<◌, ◌^◌, List, length, subst, sym}
use Rattle.std.specs.List.{All}
use Rattle.cs_yacc.specs.Reading.Meaning.{SpelledRule}
use Rattle.cs_yacc.specs.declared.reading.spelled.SpelledRule as held
use Rattle.cs_yacc.specs.Reading.RuleView.{rules_in}
use Rattle.cs_yacc.proofs.OnReading.Counts.{right_within}
use Rattle.cs_yacc.proofs.reading.limit.check_rights.Goals as goal

pub check_limit-requires : goal.check_limit-requires
check_limit-requires c =
    let parts = c.args.parts.now in
    right_within parts.words.now c.deref-rule-items.result.now c.loop-rule.rule-index _ (2 ^ 32) c.loop-rule-test.true
    (subst (λ (rules : List held.SpelledRule). All (λ (r : SpelledRule). length r.right < 2 ^ 32) (rules_in parts.words.now rules)) (sym c.deref-rule-items.ensures.value) parts.short)
