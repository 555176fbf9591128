-- Place by place, a token has no goal, and neither has a nonterminal of which no rule is left.
use Rattle.std.proofs.Common.{◌≡◌, ◌<◌, ◌≤◌, ◌+◌, List, [], ◌∷◌, drop, length, get_or, sym, subst, ◌∙◌}
use Rattle.std.specs.List.{enumerate_from}
use Rattle.std.proofs.lemmas.Option.{MatchOption-at_none, MatchOption-at_some}
use Rattle.cs_grammar.specs.declared.symbol.Symbol.{Symbol}
use Rattle.cs_grammar.specs.declared.symbol.Symbol.TheVariants.{Token, Nonterminal}
use Rattle.cs_grammar.specs.Grammar.{Production}
use Rattle.cs_goals.specs.Goals.{rules_of}
use Rattle.cs_goals.proofs.Remaining.{places_left_skip, places_left_no_rule, places_left_more, places_left_past}
use Rattle.cs_goals.proofs.occurrence.next_in.Goals as goal
use Rattle.cs_goals.proofs.occurrence.next_in.Goals.{in-Nonterminal+in_default-next_rule_of, in_default}

pub returns-in-Some : goal.returns-in-Some
returns-in-Some c p =
    let g = c.args.grammar.now in
    let at = c.loop-at.at in
    let within = subst (λ (l : List Symbol). at < length l) c.right-at-end.ensures c.loop-at-test.true in
    let symbol = subst (λ (l : List Symbol). get_or l at (Token 0) ≡ Nonterminal c.in-Nonterminal.left) c.right.ensures c.in-Nonterminal.is in
    let found = MatchOption-at_some _ _ _ c.in-Some.is c.next_rule_of.ensures in
    let bound = subst (λ (l : List Production). c.in-Some.found < length l) c.rules.ensures.rules found.0 in
    let more = subst (λ (l : List Production). rules_of (drop c.loop-at.from (enumerate_from 1 l)) c.in-Nonterminal.left ≡ (c.in-Some.found + 1) ∷ rules_of (drop (c.in-Some.found + 1) (enumerate_from 1 l)) c.in-Nonterminal.left) c.rules.ensures.rules found.1 in
    (within, bound, c.loop-at.invariant p ∙ places_left_more g p c.args.rule.now.right at within c.loop-at.from c.in-Nonterminal.left c.in-Some.found symbol more)

pub loop-at-preserved : goal.loop-at-preserved
loop-at-preserved c p =
    let g = c.args.grammar.now in
    let at = c.loop-at.at in
    let within = subst (λ (l : List Symbol). at < length l) c.right-at-end.ensures c.loop-at-test.true in
    c.loop-at.invariant p ∙ elim c.match-right-at.branch [
      | in-Nonterminal+in_default-next_rule_of w ↦
          (let symbol = subst (λ (l : List Symbol). get_or l at (Token 0) ≡ Nonterminal w.in-Nonterminal.left) c.right.ensures w.in-Nonterminal.is in
          let none = MatchOption-at_none _ _ w.in_default-next_rule_of.is w.next_rule_of.ensures in
          let none' = subst (λ (l : List Production). rules_of (drop c.loop-at.from (enumerate_from 1 l)) w.in-Nonterminal.left ≡ []) w.rules.ensures.rules none in
          places_left_no_rule g p c.args.rule.now.right at within c.loop-at.from w.in-Nonterminal.left symbol none')
      | in_default w ↦
          places_left_skip g p c.args.rule.now.right at within c.loop-at.from
          (λ n is. w.in_default.not-Nonterminal n (subst (λ (l : List Symbol). get_or l at (Token 0) ≡ Nonterminal n) (sym c.right.ensures) is))
    ]

pub returns : goal.returns
returns c p =
    let past = subst (λ (l : List Symbol). length l ≤ c.loop-at.at) c.right-at-end.ensures c.loop-at-test.false in
    c.loop-at.invariant p ∙ places_left_past c.args.grammar.now p c.args.rule.now.right c.loop-at.at c.loop-at.from past
