-- A line that is passed adds nothing, and a rule is put last, behind all that lie before it.
use Rattle.std.proofs.Common.{length, arith}
use Rattle.cs_lex.proofs.OnLayout.Lying.{no_rules_lie, rules_lie_on, rules_lie_more}
use Rattle.cs_lex.proofs.OnLayout.Reading.{rule_passed, rule_more, rules_start}
use Rattle.cs_lex.proofs.layout.layout.read_rules.Goals as goal

pub loop-at-init : goal.loop-at-init
loop-at-init c = record { lines = rules_start c.args.bytes.now c.args.from c.new-rules.result.items c.new-rules.ensures.items; within = c.requires.within; lie = no_rules_lie (length c.args.bytes.now) c.args.from c.new-rules.result.items c.new-rules.ensures.items }

pub loop-at-preserved-in-Passed : goal.loop-at-preserved-in-Passed
loop-at-preserved-in-Passed c =
    let h = rw c.in-Passed.is at c.in_ok-rules_line.ensures in
    record { lines = rule_passed c.args.bytes.now c.args.from c.loop-at.at c.loop-at.rules.items c.loop-at.invariant.lines c.in-Passed.to h.1.0 h.0; within = h.1.1; lie = rules_lie_on (length c.args.bytes.now) c.loop-at.at c.in-Passed.to c.loop-at.rules.items c.loop-at.invariant.lie (omega (arith, h.1.0)) }

pub loop-at-preserved : goal.loop-at-preserved
loop-at-preserved c =
    let h = rw c.in-Rule.is at c.in_ok-rules_line.ensures in
    record {
      lines = rule_more c.args.bytes.now c.args.from c.loop-at.at c.loop-at.rules.items c.loop-at.invariant.lines c.in-Rule.rule c.in-Rule.to c.push.new.self.items h.0 c.in_ok-push-in-Rule.ensures.items;
      within = h.1.1;
      lie = rules_lie_more (length c.args.bytes.now) c.loop-at.at c.in-Rule.to c.loop-at.rules.items c.push.new.self.items c.in-Rule.rule c.loop-at.invariant.lie h.1.0 h.2 c.in_ok-push-in-Rule.ensures.items;
    }

pub returns-in-End-clause-lies : goal.returns-in-End-clause-lies
returns-in-End-clause-lies c = rules_lie_on (length c.args.bytes.now) c.loop-at.at (length c.args.bytes.now) c.loop-at.rules.items c.loop-at.invariant.lie c.loop-at.invariant.within

pub returns-clause-lies : goal.returns-clause-lies
returns-clause-lies c = rules_lie_on (length c.args.bytes.now) c.loop-at.at (length c.args.bytes.now) c.loop-at.rules.items c.loop-at.invariant.lie c.loop-at.invariant.within
