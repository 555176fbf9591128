-- Step by step, the rules so far lead to the tokens that are done and the symbols that are open.
use Rattle.std.proofs.Common.{List, ◌+◌, ◌++◌, take, ap, subst}
use Rattle.cs_grammar.specs.declared.symbol.Symbol.{Symbol}
use Rattle.cs_grammar.specs.Leftmost.{Derives, from_start}
use Rattle.cs_grammar.specs.Walk.{kept}
use Rattle.cs_grammar.proofs.Leading.{reached_none, reached_some, too_many, too_few, wrong_at, step_at, whole_at}
use Rattle.cs_grammar.proofs.walk.walk.Goals as goal

pub returns-in_default : goal.returns-in_default
returns-in_default c =
    too_many c.args.grammar.now _ _ c.rules-number-items.ensures c.loop-at.at _ c.loop-at.invariant _ c.loop-at-test.true
    (reached_none c.loop-at.done c.loop-at.pending _ c.in_default.is)

pub returns-in_default-rule_of : goal.returns-in_default-rule_of
returns-in_default-rule_of c =
    wrong_at c.args.grammar.now _ _ c.rules-number-items.ensures c.loop-at.at _ c.loop-at.invariant _ _ _ c.loop-at-test.true
    (reached_some c.loop-at.done c.loop-at.pending _ _ c.in-Some.is) c.in_default-rule_of.ensures.none

pub loop-at-preserved : goal.loop-at-preserved
loop-at-preserved c =
    let rule = c.in-Some-rule_of.ensures.some in
    let rest = kept c.loop-at.pending in
    let stepped = step_at c.args.grammar.now _ _ c.rules-number-items.ensures c.loop-at.at _ c.loop-at.invariant _ _ _ (c.right.result.now ++ rest) _ c.loop-at-test.true
    (reached_some c.loop-at.done c.loop-at.pending _ _ c.in-Some.is) rule.0 rule.1
    (ap (λ (xs : List Symbol). xs ++ rest) c.right.ensures) in
    subst (Derives c.args.grammar.now (from_start c.args.grammar.now) (take (c.loop-at.at + 1) c.rules-number-items.result.now)) c.in_ok-next.ensures stepped

pub returns-in-None : goal.returns-in-None
returns-in-None c =
    whole_at c.args.grammar.now _ _ c.rules-number-items.ensures c.loop-at.at _ c.loop-at.invariant _ c.loop-at-test.false
    (reached_none c.loop-at.done c.loop-at.pending _ c.in-None.is)

pub returns-in-Some-next : goal.returns-in-Some-next
returns-in-Some-next c =
    too_few c.args.grammar.now _ _ c.rules-number-items.ensures c.loop-at.at _ c.loop-at.invariant _ _ _ c.loop-at-test.false
    (reached_some c.loop-at.done c.loop-at.pending _ _ c.in-Some-next.is)
