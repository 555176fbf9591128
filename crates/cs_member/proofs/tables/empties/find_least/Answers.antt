-- One rule more leads further, or its left side is known, or one of its symbols has no known empty tree.
use Rattle.std.proofs.Common.{◌≡◌, ◌+◌, ◌-◌, ◌<◌, ◌⊎◌, get_or, List, Option, Some, length, refl, sym, ap, ◌∙◌, subst, arith}
use Rattle.std.specs.Prelude.{All, IfSome, IsSome, slice_get}
use Rattle.std.proofs.lemmas.Option.{slice_get-get_or, slice_get_read, slice_get_within}
use Rattle.cs_grammar.specs.declared.symbol.Symbol.{Symbol}
use Rattle.cs_grammar.specs.Grammar.{Production, IsRule}
use Rattle.cs_grammar.proofs.Measures.{IsRuleOf-rule}
use Rattle.cs_member.specs.declared.tables.empties.Found.{Found}
use Rattle.cs_member.specs.Tables.Tables.{HasEmpty, IsFurther, IsSaturated}
use Rattle.cs_member.proofs.OnTables.Emptying.{seen_more, lesser_some, lesser_not_none, if_none}
use Rattle.cs_member.proofs.tables.empties.find_least.Goals as goal
use Rattle.cs_member.proofs.tables.empties.find_least.Goals.{then-empties-left-eq0+then-have_empty, else-empties-left-eq0, else-empties-left-eq0-via-then-empties-left-eq0+else-have_empty, else-empties-left-eq0-via-else-empties-left-eq0}

pub loop-place-preserved : goal.loop-place-preserved
loop-place-preserved c =
    let g = c.args.grammar.now in
    let i = c.loop-place.place in
    let empties = c.args.empties.now in
    let p : Production = c.rule-item.result in
    let inv = c.loop-place.invariant in
    let lt : i < length g.rules = (let test = c.loop-place-test.true in let same = ap (λ (l : List Production). length l) c.rules-rule-items.ensures.rules in omega arith) in
    let at : slice_get g.rules i ≡ Some p = slice_get_read g.rules _ i p refl lt (c.rule-item.is ∙ ap (λ (l : List Production). get_or l i p) c.rules-rule-items.ensures.rules) in
    let back : i + 1 - 1 ≡ i = omega arith in
    let rule : IsRule g (i + 1) p = record { above_zero = omega arith; at = ap (λ n. slice_get g.rules n) back ∙ at } in
    let left = (IsRuleOf-rule g (i + 1) p c.rules-rule-items.ensures.well_formed rule).left.1 in
    let size = c.requires.empties in
    let inside : p.left < length empties = omega arith in
    let there : slice_get empties p.left ≡ Some (get_or empties p.left 0) = slice_get-get_or empties p.left 0 inside in
    elim c.if-empties-left-eq0.branch [
      | then-empties-left-eq0+then-have_empty w ↦
          let all = subst (λ (l : List Symbol). All (HasEmpty empties) l) w.right.ensures (w.if-have_empty.ensures.0 refl) in
          let zero : get_or empties p.left 0 ≡ 0 = ap (λ n. get_or empties n 0) (sym c.left.ensures) ∙ w.if-empties-left-eq0.true in
          let found : Found = record { rule = w.number_of.result; size = w.size_of.result } in
          let further : IsFurther g empties w.number_of.result = subst (λ n. IsFurther g empties n) (sym w.number_of.ensures) (record { rule = p; number = rule; none = there ∙ ap Some zero; all = all }) in
          record {
            some = lesser_some g empties c.loop-place.least c.if-empties-left-eq0.least found further (subst (λ (o : Option Found). (o ≡ Some found) ⊎ (IsSome c.loop-place.least × (o ≡ c.loop-place.least))) (sym w.least-is) w.lesser-least.ensures) inv.some;
            none = λ is. absurd (lesser_not_none c.loop-place.least c.if-empties-left-eq0.least found (subst (λ (o : Option Found). (o ≡ Some found) ⊎ (IsSome c.loop-place.least × (o ≡ c.loop-place.least))) (sym w.least-is) w.lesser-least.ensures) is);
          }
      | else-empties-left-eq0 w ↦ record {
        some = subst (λ (o : Option Found). IfSome o (λ (found : Found). IsFurther g empties found.rule)) (sym w.least-is) inv.some;
        none = λ is. seen_more g empties i p at
            (λ all. elim w.else-empties-left-eq0.branch [
              | else-empties-left-eq0-via-then-empties-left-eq0+else-have_empty v ↦
                  absurd (let t = v.if-have_empty.ensures.1 (subst (λ (l : List Symbol). All (HasEmpty empties) l) (sym v.right.ensures) all) in cc)
              | else-empties-left-eq0-via-else-empties-left-eq0 v ↦
                  (get_or empties p.left 0, there, (let ne = v.if-empties-left-eq0.false in let e : get_or empties c.left.result 0 ≡ get_or empties p.left 0 = ap (λ n. get_or empties n 0) c.left.ensures in omega arith))
            ])
            (inv.none (sym w.least-is ∙ is));
      }
    ]

pub returns-clause-none : goal.returns-clause-none
returns-clause-none c = if_none c.loop-place.least (IsSaturated c.args.grammar.now c.args.empties.now)
    (λ is r p rule all. c.loop-place.invariant.none is (r - 1) p (let lt = slice_get_within c.args.grammar.now.rules (r - 1) p rule.at in let end = c.loop-place-test.false in let same = ap (λ (l : List Production). length l) c.rules-rule-items.ensures.rules in omega arith) rule.at all)
