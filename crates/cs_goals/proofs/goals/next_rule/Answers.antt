-- One rule more, or none is left past the last one.
use Rattle.std.proofs.Common.{List, ◌<◌, ◌≤◌, length, subst}
use Rattle.cs_grammar.specs.Grammar.{Production}
use Rattle.cs_goals.proofs.Remaining.{rules_left_more, rules_left_past}
use Rattle.cs_goals.proofs.goals.next_rule.Goals as goal

pub returns-then-given-rules : goal.returns-then-given-rules
returns-then-given-rules c =
    rules_left_more c.args.grammar.now c.args.given.now (subst (λ (l : List Production). c.args.given.now < length l) c.rules.ensures.rules c.if-given-rules.true)

pub returns-else-given-rules : goal.returns-else-given-rules
returns-else-given-rules c =
    let none = rules_left_past c.args.grammar.now c.args.given.now (subst (λ (l : List Production). length l ≤ c.args.given.now) c.rules.ensures.rules c.if-given-rules.false) in
    (none, none)
