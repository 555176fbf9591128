-- Place by place: a nonterminal with trees beside it gives a step at their cost, and other symbols give none.
use Rattle.std.proofs.Common.{◌≡◌, ◌+◌, ◌≤◌, List, [], ◌∷◌, ◌++◌, length, get_or, take, drop, sym, ◌∙◌, subst, arith}
use Rattle.std.proofs.lemmas.List.{take_more, get_or_default}
use Rattle.std.proofs.lemmas.Option.{slice_get-get_or}
use Rattle.cs_grammar.specs.declared.symbol.Symbol.{Symbol}
use Rattle.cs_grammar.specs.declared.symbol.Symbol.TheVariants.{Token}
use Rattle.cs_grammar.proofs.Measures.{rule_here}
use Rattle.cs_least.specs.declared.cost.cost.Cost.TheVariants.{Never}
use Rattle.cs_least.specs.Cost.Trees.{AreTreesCost}
use Rattle.cs_least.proofs.OnCost.TreeLists.{trees_none, trees_one, trees_join}
use Rattle.cs_least.specs.Embed.Ways.{inward, siblings_cost}
use Rattle.cs_least.proofs.OnEmbed.Steps.{place_passed, place_made, inwards_next}
use Rattle.cs_least.proofs.embed.inwards.push_inwards.Goals as goal
use Rattle.cs_least.proofs.embed.inwards.push_inwards.Goals.{in-Some+in_ok-push+in_ok-push-2, in_default}

pub loop-place-init : goal.loop-place-init
loop-place-init c = record { before = trees_none c.args.costs.now.weights c.args.costs.now.grammar; inwards = c.requires.inwards }

pub loop-place-preserved : goal.loop-place-preserved
loop-place-preserved c =
    let v = c.args.costs.now in
    let g = v.grammar in
    let q = c.args.number in
    let j = c.loop-place.place in
    let items = c.right-right.result.now in
    let x = get_or items j (Token 0) in
    let within = c.loop-place-test.true in
    let rule = rule_here g _ q c.rule-rule.result.now c.grammar.ensures c.rule-rule.ensures.rule in
    let here = slice_get-get_or items j (Token 0) within in
    let before = c.loop-place.invariant.before in
    let rest = c.put_rest_costs.new.rest.items in
    let behind = subst (AreTreesCost v (drop (j + 1) items)) (get_or_default rest (j + 1) Never c.index.result.now (omega (arith, within, c.in_ok-put_rest_costs.ensures.many)) ∙ sym c.index.ensures) (c.in_ok-put_rest_costs.ensures.each (j + 1) (omega (arith, within))) in
    let sum = trees_join v.weights g (take j items) (x ∷ []) c.loop-place.before c.cost.result before (trees_one v.weights g x c.cost.result c.cost.ensures) in
    let made : c.inward-found.result ≡ inward v.weights.limit c.left.result x (siblings_cost v.weights.limit c.loop-place.before c.index.result.now) = c.inward-found.ensures in
    record {
      before = subst (λ (l : List Symbol). AreTreesCost v l c.plus-before.result) (sym (take_more items j (Token 0) within))
          (subst (AreTreesCost v (take j items ++ x ∷ [])) (sym c.plus-before.ensures.cost) sum);
      inwards = elim c.match-found.branch [
        | in-Some+in_ok-push+in_ok-push-2 b ↦
            rw (b.inwards-is, b.in_ok-push.ensures.items, b.in_ok-push-2.ensures.items)
            (place_made v.weights g q j c.rule-rule.result.now rule items c.right-right.ensures x here c.loop-place.before c.index.result.now before behind c.left.result c.left.ensures _ _ c.loop-place.invariant.inwards b.in-Some.step (sym made ∙ b.in-Some.is))
        | in_default b ↦
            rw b.inwards-is
            (place_passed v.weights g q j c.rule-rule.result.now rule items c.right-right.ensures x here c.loop-place.before c.index.result.now before behind c.left.result c.left.ensures _ _ c.loop-place.invariant.inwards (sym made ∙ b.in_default.is))
      ];
    }

pub returns : goal.returns
returns c =
    let rule = rule_here c.args.costs.now.grammar _ c.args.number c.rule-rule.result.now c.grammar.ensures c.rule-rule.ensures.rule in
    let all = subst (λ (s : List Symbol). length s ≤ c.loop-place.place) c.right-right.ensures c.loop-place-test.false in
    inwards_next c.args.costs.now.weights _ _ _ _ _ c.loop-place.invariant.inwards _ rule all
