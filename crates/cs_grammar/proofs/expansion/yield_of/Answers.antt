-- Step by step, the rules so far lead to the tokens that are done and the symbols that are ahead.
use Rattle.std.proofs.Common.{ℕ, List, Some, ◌+◌, ◌++◌, get_or, take, refl, sym, ap, ◌∙◌, subst}
use Rattle.std.proofs.lemmas.List.{take_all}
use Rattle.cs_grammar.specs.declared.symbol.Symbol.{Symbol}
use Rattle.cs_grammar.specs.declared.symbol.Symbol.TheVariants.{Nonterminal}
use Rattle.cs_grammar.specs.Grammar.{Production}
use Rattle.cs_grammar.specs.Tree.{IsDerivation}
use Rattle.cs_grammar.specs.Leftmost.{Derives, from_start}
use Rattle.cs_grammar.specs.Walk.{kept, reached}
use Rattle.cs_grammar.proofs.Leading.{reached_start, step_at, whole_at}
use Rattle.cs_grammar.proofs.Measures.{IsNumberOf-rule}
use Rattle.cs_grammar.proofs.OneAnswer.{all_done, known_at, known_form}
use Rattle.cs_grammar.proofs.OneTree.{one_rule}
use Rattle.cs_grammar.proofs.expansion.yield_of.Goals as goal

pub loop-number-init : goal.loop-number-init
loop-number-init c = (Some c.args.grammar.now.start, reached_start c.args.grammar.now c.in_ok-done.done c.in_ok-pending.pending c.in_ok-done.ensures.items c.in_ok-pending.ensures.items)

pub rule-requires : goal.rule-requires
rule-requires c =
    let g = c.args.grammar.now in
    let is = subst (IsDerivation g (Nonterminal g.start)) (sym c.rules-number-items.ensures) c.requires in
    let known = known_at g c.rules-number-items.result.now is c.loop-number.number-index _ c.loop-number-test.true c.loop-number.invariant.1 in
    IsNumberOf-rule g _ known.rule known.number

pub loop-number-preserved : goal.loop-number-preserved
loop-number-preserved c =
    let g = c.args.grammar.now in
    let rules = c.rules-number-items.result.now in
    let at = c.loop-number.number-index in
    let number = get_or rules at 0 in
    let rest = kept c.loop-number.pending in
    let is = subst (IsDerivation g (Nonterminal g.start)) (sym c.rules-number-items.ensures) c.requires in
    let known = known_at g rules is at _ c.loop-number-test.true c.loop-number.invariant.1 in
    let rule = one_rule g number number c.rule.result.now known.rule refl c.rule.ensures.rule known.number in
    let stepped = step_at g _ _ c.rules-number-items.ensures at _ c.loop-number.invariant.1 _ _ _ (c.right.result.now ++ rest) known.rule c.loop-number-test.true
    (known_form c.loop-number.done c.loop-number.pending c.loop-number.invariant.0 known.done known.rule.left known.rest known.is) known.number refl
    (ap (λ (xs : List Symbol). xs ++ rest) (c.right.ensures ∙ ap (λ (p : Production). p.right) rule)) in
    (c.in_ok-read.field-0, subst (Derives g (from_start g) (take (at + 1) rules)) c.in_ok-read.ensures stepped)

pub returns : goal.returns
returns c =
    let g = c.args.grammar.now in
    let rules = c.rules-number-items.result.now in
    let at = c.loop-number.number-index in
    let is = subst (IsDerivation g (Nonterminal g.start)) (sym c.rules-number-items.ensures) c.requires in
    let end = subst (λ (l : List ℕ). Derives g (from_start g) l (reached c.loop-number.done c.loop-number.pending c.loop-number.invariant.0)) (take_all at rules c.loop-number-test.false) c.loop-number.invariant.1 in
    whole_at g _ _ c.rules-number-items.ensures at _ c.loop-number.invariant.1 _ c.loop-number-test.false
    (all_done g rules is c.loop-number.done c.loop-number.pending c.loop-number.invariant.0 end)
