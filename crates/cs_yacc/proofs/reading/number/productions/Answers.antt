-- One rule more, whose right side takes its symbols from the table.
use Rattle.std.proofs.Common.{◌∙◌, arith}
use Rattle.std.proofs.lemmas.Grind.{common_steps}
use Rattle.cs_yacc.proofs.OnReading.Numbers.{rule_symbols}
use Rattle.cs_yacc.proofs.reading.number.productions.Goals as goal

pub loop-rule-preserved : goal.loop-rule-preserved
loop-rule-preserved c =
    let file = c.args.file.now in
    let right = rule_symbols file c.deref.result.now c.in_ok-right.right.items file.parts.now.rules.items c.deref-rule-items.result.now c.loop-rule.rule-index _ (c.deref.ensures.value ∙ c.in_ok-table.ensures) file.parts.now.within c.deref-rule-items.ensures.value c.loop-rule-test.true c.in_ok-right.ensures in
    (grind (arith, common_steps, right), c.left_number-left.ensures)
