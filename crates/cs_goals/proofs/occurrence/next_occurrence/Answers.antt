-- Rule by rule, one whose places have no goal left is passed over.
use Rattle.std.proofs.Common.{◌≡◌, ◌<◌, ◌≤◌, ◌+◌, List, [], ◌∷◌, drop, length, get_or, sym, subst, ◌∙◌, arith}
use Rattle.std.specs.List.{enumerate_from}
use Rattle.std.proofs.lemmas.Option.{MatchOption-at_none, MatchOption-at_some}
use Rattle.cs_grammar.specs.Grammar.{Production}
use Rattle.cs_goals.specs.declared.goal.Goal.TheVariants.{Context}
use Rattle.cs_goals.specs.Rest.{places_left}
use Rattle.cs_goals.proofs.Remaining.{contexts_left_no_place, contexts_left_more, contexts_left_past}
use Rattle.cs_goals.proofs.occurrence.next_occurrence.Goals as goal

pub returns-in-Some : goal.returns-in-Some
returns-in-Some c =
    let g = c.args.grammar.now in
    let p = c.loop-outer.outer in
    let d = c.index-rules-outer.result in
    let within = subst (λ (l : List Production). p < length l) c.rules-outer-end.ensures.rules c.loop-outer-test.true in
    let rule = subst (λ (l : List Production). d ≡ get_or l p d) c.rules.ensures.rules c.index-rules-outer.is in
    let found = MatchOption-at_some _ _ _ c.in-Some.is (c.next_in.ensures (p + 1)) in
    let well = c.rules.ensures.well_formed in
    let few = well.few in
    let more = subst (λ (r : Production). places_left g (p + 1) (drop c.loop-outer.start.place (enumerate_from 1 r.right)) c.loop-outer.start.inner ≡ Context (p + 1) (c.in-Some.place + 1) (c.in-Some.inner + 1) ∷ places_left g (p + 1) (drop c.in-Some.place (enumerate_from 1 r.right)) (c.in-Some.inner + 1)) rule found.2 in
    let short = subst (λ (r : Production). length r.right ≤ 128) (sym rule) (well.rules p d within).short in
    (omega arith, omega (arith, short, found.0), omega (arith, found.1), c.loop-outer.invariant ∙ contexts_left_more g p d within c.loop-outer.start.place c.loop-outer.start.inner c.in-Some.place c.in-Some.inner more)

pub loop-outer-preserved : goal.loop-outer-preserved
loop-outer-preserved c =
    let g = c.args.grammar.now in
    let p = c.loop-outer.outer in
    let d = c.index-rules-outer.result in
    let within = subst (λ (l : List Production). p < length l) c.rules-outer-end.ensures.rules c.loop-outer-test.true in
    let rule = subst (λ (l : List Production). d ≡ get_or l p d) c.rules.ensures.rules c.index-rules-outer.is in
    let none = MatchOption-at_none _ _ c.in_default.is (c.next_in.ensures (p + 1)) in
    let none' = subst (λ (r : Production). places_left g (p + 1) (drop c.loop-outer.start.place (enumerate_from 1 r.right)) c.loop-outer.start.inner ≡ []) rule none in
    c.loop-outer.invariant ∙ contexts_left_no_place g p d within c.loop-outer.start.place c.loop-outer.start.inner none'

pub returns : goal.returns
returns c =
    let past = subst (λ (l : List Production). length l ≤ c.loop-outer.outer) c.rules-outer-end.ensures.rules c.loop-outer-test.false in
    c.loop-outer.invariant ∙ contexts_left_past c.args.grammar.now c.loop-outer.outer c.loop-outer.start.place c.loop-outer.start.inner past
