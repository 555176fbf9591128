-- From the last symbol to the first, each nonterminal is put with whether it is the awaited one.
use Rattle.std.proofs.Common.{◌≡◌, ◌-◌, ◌++◌, List, [], drop, length, reverse, sym, ap, ◌∙◌, arith}
use Rattle.std.proofs.lemmas.List.{drop_all}
use Rattle.cs_grammar.specs.declared.symbol.Symbol.{Symbol}
use Rattle.cs_goals.specs.Awaits.{awaits}
use Rattle.cs_goals.proofs.meeting.await_child.Goals as goal

pub loop-at-init : goal.loop-at-init
loop-at-init c =
    let right = c.args.right.now in
    let none : drop (length right) right ≡ [] = drop_all (length right) right (omega arith) in
    ap (λ (l : List Symbol). awaits (c.args.place - length right) l ++ reverse c.args.pending.now.items) (sym none)

pub returns : goal.returns
returns c =
    let right = c.args.right.now in
    let first : c.loop-at.at ≡ 0 = omega arith in
    let place : c.args.place - c.loop-at.at ≡ c.args.place = omega arith in
    c.loop-at.invariant
    ∙ ap (λ n. awaits n (drop c.loop-at.at right) ++ reverse c.args.pending.now.items) place
    ∙ ap (λ n. awaits c.args.place (drop n right) ++ reverse c.args.pending.now.items) first
