-- Place by place, a step is made where trees can stand beside the symbol, and none where they can't.
use Rattle.std.proofs.Common.{◌+◌, ◌≤◌, List, [], ◌∷◌, ◌++◌, length, get_or, refl, sym, ap, ◌∙◌, subst, arith}
use Rattle.std.specs.Prelude.{All}
use Rattle.std.proofs.lemmas.List.Elements.{All-get_or}
use Rattle.std.proofs.lemmas.Option.{slice_get-get_or}
use Rattle.cs_grammar.specs.declared.symbol.Symbol.{Symbol}
use Rattle.cs_grammar.specs.declared.symbol.Symbol.TheVariants.{Token}
use Rattle.cs_grammar.specs.Grammar.{PlainGrammar, IsRule, IsSymbolOf}
use Rattle.cs_grammar.specs.Weights.{Measure, Weighed}
use Rattle.cs_least.proofs.OnEmbed.Lists.{rest_is}
use Rattle.cs_least.specs.declared.embed.inwards.RulePlace.{RulePlace}
use Rattle.cs_pairs.specs.Kinds.Numbers.{symbol_number}
use Rattle.cs_pairs.specs.Kinds.RimsOf.{IsStepCost}
use Rattle.cs_pairs.proofs.OnKinds.Numbers.{wide}
use Rattle.cs_pairs.proofs.OnKinds.RimLists.{rims_passed, rims_made, rims_next}
use Rattle.cs_pairs.proofs.kinds.rims.push_rims.Goals as goal
use Rattle.cs_pairs.proofs.kinds.rims.push_rims.Goals.{in-Some+in_ok-push, in_default}

pub symbol_number-to-requires-clause-tokens : goal.symbol_number-to-requires-clause-tokens
symbol_number-to-requires-clause-tokens c = omega (arith, c.tokens.ensures, c.rules-rules.ensures.well_formed.tokens)

pub symbol_number-to-requires-clause-symbol : goal.symbol_number-to-requires-clause-symbol
symbol_number-to-requires-clause-symbol c =
    let left = c.rule-rule.ensures.fits.left in
    (omega (arith, c.left.ensures, left), omega (arith, c.left.ensures, left, c.rules-rules.ensures.well_formed.nonterminals))

pub symbol_number-from-requires-clause-tokens : goal.symbol_number-from-requires-clause-tokens
symbol_number-from-requires-clause-tokens c = omega (arith, c.tokens-in-Some.ensures, c.rules-rules.ensures.well_formed.tokens)

pub symbol_number-from-requires-clause-symbol : goal.symbol_number-from-requires-clause-symbol
symbol_number-from-requires-clause-symbol c =
    let g = c.grammar-grammar.result.now in
    let items = c.right-right.result.now in
    let each = subst (λ (l : List Symbol). All (IsSymbolOf g) l) (sym c.right-right.ensures) c.rule-rule.ensures.fits.right in
    wide g _ c.rules-rules.ensures.well_formed (All-get_or (IsSymbolOf g) items c.loop-place.place (Token 0) c.loop-place-test.true each)

pub loop-place-preserved : goal.loop-place-preserved
loop-place-preserved c =
    let v = c.args.bases.now in
    let g = v.grammar in
    let q = c.args.number in
    let j = c.loop-place.place in
    let p = c.rule-rule.result.now in
    let items = c.right-right.result.now in
    let x = get_or items j (Token 0) in
    let same = c.grammar-grammar.ensures ∙ ap (λ (u : Weighed). u.grammar) c.bases.view_is in
    let rule = subst (λ (m : PlainGrammar). IsRule m q p) same c.rule-rule.ensures.rule in
    let here = slice_get-get_or items j (Token 0) c.loop-place-test.true in
    let others = c.beside_cost-others.result in
    let tokens = c.tokens.ensures ∙ ap (λ (m : PlainGrammar). m.tokens) same in
    let step = subst (λ (m : Measure). IsStepCost m.limit others c.step_cost.result) (c.weights.ensures.weights ∙ ap (λ (u : Weighed). u.weights) c.bases.view_is) c.step_cost.ensures in
    let so_far = c.loop-place.invariant in
    let a : RulePlace = record { rule = q; place = j } in
    elim c.match-step_cost.branch [
      | in-Some+in_ok-push b ↦
          let tokens' = b.tokens-in-Some.ensures ∙ ap (λ (m : PlainGrammar). m.tokens) same in (
            so_far.0 ++ a ∷ [],
            rw b.steps-is
                (rims_made v.weights g c.args.side q j p rule items c.right-right.ensures x here _ (rest_is items (j + 1)) others c.beside_cost-others.ensures.cost so_far.0 _ so_far.1
                a _ _ _ refl b.in_ok-push.ensures.items refl refl
                (b.symbol_number-from.ensures ∙ ap (λ n. symbol_number n x) tokens')
                (c.symbol_number-to.ensures ∙ ap (λ n. n + c.left.result) tokens ∙ ap (λ n. g.tokens + n) c.left.ensures)
                (subst (IsStepCost v.weights.limit others) b.in-Some.is step)),
          )
      | in_default b ↦ (
        so_far.0,
        rw b.steps-is
            (rims_passed v.weights g c.args.side q j p rule items c.right-right.ensures x here _ (rest_is items (j + 1)) others c.beside_cost-others.ensures.cost so_far.0 _ so_far.1
            (subst (IsStepCost v.weights.limit others) b.in_default.is step)),
      )
    ]

pub returns : goal.returns
returns c =
    let v = c.args.bases.now in
    let p = c.rule-rule.result.now in
    let same = c.grammar-grammar.ensures ∙ ap (λ (u : Weighed). u.grammar) c.bases.view_is in
    let rule = subst (λ (m : PlainGrammar). IsRule m c.args.number p) same c.rule-rule.ensures.rule in
    let all = subst (λ (s : List Symbol). length s ≤ c.loop-place.place) c.right-right.ensures c.loop-place-test.false in
    (c.loop-place.invariant.0, rims_next v.weights v.grammar c.args.side _ _ p _ _ rule all c.loop-place.invariant.1)
