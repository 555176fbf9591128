-- One rule's fronts more are entered, from those of none up to those of all.
use Rattle.std.proofs.Common.{◌+◌, ◌<◌, ap, ◌∙◌, sym, subst, List, length, arith}
use Rattle.cs_grammar.specs.Grammar.{Production}
use Rattle.cs_member.specs.Tables.Fronts.{AreEntered}
use Rattle.cs_member.proofs.OnTables.Entering.{entered_none, entered_more}
use Rattle.cs_member.proofs.tables.fronts.fronts_of.Goals as goal

pub loop-place-init : goal.loop-place-init
loop-place-init c =
    entered_none c.args.grammar.now _
    (c.in_ok-no_lists.ensures.size ∙ ap (λ n. n + 1) c.tokens.ensures)
    (c.in_ok-no_lists-2.ensures.size ∙ ap (λ n. n + 1) c.nonterminals.ensures)
    (c.in_ok-no_lists-3.ensures.size ∙ ap (λ n. n + 1) c.nonterminals-2.ensures)
    c.in_ok-no_lists.ensures.empty c.in_ok-no_lists-2.ensures.empty c.in_ok-no_lists-3.ensures.empty

pub enter_rule-requires-clause-before : goal.enter_rule-requires-clause-before
enter_rule-requires-clause-before c = subst (λ n. AreEntered c.args.grammar.now (λ x. x.rule < n) c.loop-place.fronts) (sym c.number_of.ensures) c.loop-place.invariant

pub loop-place-preserved : goal.loop-place-preserved
loop-place-preserved c = subst (λ n. AreEntered c.args.grammar.now (λ x. x.rule < n + 1) c.enter_rule.new.fronts) c.number_of.ensures c.in_ok-enter_rule.ensures

pub returns : goal.returns
returns c =
    let same = ap (λ (l : List Production). length l) c.rules-place-end.ensures.rules in
    let end = c.loop-place-test.false in
    entered_more c.args.grammar.now (λ x. x.rule < c.loop-place.place + 1) (λ x. x.rule < length c.args.grammar.now.rules + 1) c.loop-place.fronts c.loop-place.invariant (λ y a s lt f w. omega arith)
