-- No spelling is marked yet; one rule more marks those of its right side.
use Rattle.std.proofs.Common.{◌≡◌, false, length, replicate, refl, ap, ◌∙◌, arith}
use Rattle.std.proofs.lemmas.Grind.{common_steps}
use Rattle.std.proofs.lemmas.List.{length-replicate}
use Rattle.cs_yacc.proofs.OnReading.Marks.{marking_none, marking_more, marking_ends}
use Rattle.cs_yacc.proofs.reading.gather.used.Goals as goal

pub loop-rule-init : goal.loop-rule-init
loop-rule-init c =
    let made : c.in_ok-marks.marks.items ≡ replicate (length c.args.words.now) false = grind (arith, common_steps) in
    (ap length made ∙ length-replicate (length c.args.words.now) false, marking_none c.args.words.now (length c.args.words.now) c.in_ok-marks.marks.items _ refl made)

pub loop-rule-preserved : goal.loop-rule-preserved
loop-rule-preserved c = (
  c.mark_all.ensures.length ∙ c.loop-rule.invariant.0,
  marking_more c.args.words.now c.args.rules.now c.loop-rule.rule-index _ _ _ _ c.requires.apart c.loop-rule.invariant.1 c.loop-rule-test.true c.mark_all.ensures.marks,
)

pub returns : goal.returns
returns c = marking_ends c.args.words.now c.args.rules.now c.loop-rule.rule-index _ _ c.loop-rule.invariant.1 c.loop-rule-test.false
