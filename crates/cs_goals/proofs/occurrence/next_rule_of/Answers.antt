-- Rule by rule, one of another left side is passed over.
use Rattle.std.proofs.Common.{sym, ap, ◌∙◌}
use Rattle.cs_grammar.specs.Grammar.{Production}
use Rattle.cs_goals.proofs.Remaining.{rules_of_hit, rules_of_miss, rules_of_past}
use Rattle.cs_goals.proofs.occurrence.next_rule_of.Goals as goal

pub returns-then-left : goal.returns-then-left
returns-then-left c =
    let same = ap (λ (p : Production). p.left) (sym c.index-rules-at.is) ∙ sym c.left.ensures ∙ c.if-left.true in
    (c.loop-at-test.true, c.loop-at.invariant ∙ rules_of_hit c.args.rules.now c.index-rules-at.result c.args.left c.loop-at.at c.loop-at-test.true same)

pub loop-at-preserved : goal.loop-at-preserved
loop-at-preserved c =
    c.loop-at.invariant
    ∙ rules_of_miss c.args.rules.now c.index-rules-at.result c.args.left c.loop-at.at c.loop-at-test.true
    (λ same. c.if-left.false (c.left.ensures ∙ ap (λ (p : Production). p.left) c.index-rules-at.is ∙ same))

pub returns : goal.returns
returns c = c.loop-at.invariant ∙ rules_of_past c.args.rules.now c.args.left c.loop-at.at c.loop-at-test.false
