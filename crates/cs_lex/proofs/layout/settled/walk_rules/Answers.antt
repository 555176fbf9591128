-- One line more without a fault, with a rule or without one.
use Rattle.cs_lex.proofs.OnLayout.SettledTexts.{rules_walk_start, rules_walk_on, rules_walk_rule}
use Rattle.cs_lex.proofs.layout.settled.walk_rules.Goals as goal

pub loop-at-init : goal.loop-at-init
loop-at-init c = record { walked = rules_walk_start c.args.bytes.now c.args.from; within = c.requires.within }

pub loop-at-preserved-in-Ok-Passed : goal.loop-at-preserved-in-Ok-Passed
loop-at-preserved-in-Ok-Passed c =
    let h = rw c.in-Ok-Passed.field-0-is at c.in-Ok-Passed.ensures in
    record { walked = rules_walk_on c.args.bytes.now c.args.from c.loop-at.at c.in-Ok-Passed.to c.loop-at.invariant.walked h.1.0 h.0; within = h.1.1 }

pub loop-at-preserved : goal.loop-at-preserved
loop-at-preserved c =
    let h = rw c.in-Ok-Rule.field-0-is at c.in-Ok-Rule.ensures in
    record { walked = rules_walk_rule c.args.bytes.now c.args.from c.loop-at.at c.in-Ok-Rule.to c.in-Ok-Rule.field-0-0 c.loop-at.invariant.walked h.0; within = h.1.1 }
