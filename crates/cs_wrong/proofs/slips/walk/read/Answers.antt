-- Each rule is put in for the leftmost nonterminal, which the rules before it lead to.
use Rattle.std.proofs.Common.{List, ◌++◌, ap, reverse, ◌∙◌}
use Rattle.cs_grammar.specs.declared.symbol.Symbol.{Symbol}
use Rattle.cs_wrong.proofs.OnSlips.Walking.{is_rule, stepped}
use Rattle.cs_wrong.proofs.slips.walk.read.Goals as goal

pub rule-requires : goal.rule-requires
rule-requires c = is_rule c.args.grammar.now c.args.rules.now _ c.requires c.loop-number.number-index _ c.loop-number.invariant c.loop-number-test.true

pub loop-number-preserved : goal.loop-number-preserved
loop-number-preserved c =
    stepped c.args.grammar.now c.args.rules.now _ c.requires c.loop-number.number-index _ c.loop-number.invariant c.loop-number-test.true
    c.rule.result.now c.settle.new.done c.settle.new.pending c.put_on_top.new.stack c.in_ok-_left._left c.in_ok-_left.ensures c.rule.ensures.rule
    (c.in_ok-put_on_top.ensures.ok ∙ ap (λ (xs : List Symbol). xs ++ reverse c.settle.new.pending.items) c.right.ensures)
