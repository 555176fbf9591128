-- From the last symbol to the first, the cost of one empty tree more is added to that of those behind it.
use Rattle.std.proofs.Common.{◌≡◌, ◌+◌, ◌-◌, ◌<◌, List, ◌∷◌, length, get_or, drop, sym, ap, ◌∙◌, subst, arith}
use Rattle.std.proofs.lemmas.List.{drop_all}
use Rattle.cs_grammar.specs.declared.symbol.Symbol.{Symbol}
use Rattle.cs_grammar.specs.declared.symbol.Symbol.TheVariants.{Token}
use Rattle.cs_grammar.specs.Weights.{Weighed}
use Rattle.cs_least.specs.declared.cost.cost.Cost.{Cost}
use Rattle.cs_least.specs.declared.cost.cost.Cost.TheVariants.{Least}
use Rattle.cs_least.specs.Cost.Rank.{IsCapped, plus}
use Rattle.cs_pairs.specs.declared.kinds.kind.TreeKind.TheVariants.{Empty, Ends}
use Rattle.cs_pairs.specs.Kinds.KindCost.{AreKindCost}
use Rattle.cs_pairs.proofs.OnKinds.Placing.{left_from}
use Rattle.cs_pairs.proofs.OnKinds.Sweeping.{swept_none, behind_cost}
use Rattle.cs_pairs.proofs.kinds.rims.empty_sum.Goals as goal

pub loop-place-init : goal.loop-place-init
loop-place-init c =
    let v = c.args.bases.now in
    let xs = c.args.symbols.now in
    let none = drop_all (length xs) xs (omega arith) in
    record {
      cost = subst (λ (l : List Symbol). AreKindCost v Empty l (Least 0)) (sym none) (swept_none v.weights v.grammar Empty);
      capped = omega arith;
    }

pub loop-place-preserved : goal.loop-place-preserved
loop-place-preserved c =
    let v = c.args.bases.now in
    let xs = c.args.symbols.now in
    let next : c.loop-place.place - 1 + 1 ≡ c.loop-place.place = omega (arith, c.loop-place-test.true) in
    let within : c.loop-place.place - 1 < length xs = omega (arith, c.loop-place-test.true) in
    let x = get_or xs (c.loop-place.place - 1) (Token 0) in
    let same = c.plus-sum.ensures.cost ∙ ap (λ (u : Weighed). plus u.weights.limit c.empty_cost.result c.loop-place.sum) c.bases.view_is in
    let sum = behind_cost v.weights v.grammar (Ends 0) x (drop c.loop-place.place xs) c.empty_cost.result c.loop-place.sum c.empty_cost.ensures c.loop-place.invariant.cost in
    record {
      cost = subst (λ (l : List Symbol). AreKindCost v Empty l c.plus-sum.result) (left_from xs _ _ (Token 0) next within) (subst (λ (k : Cost). AreKindCost v Empty (x ∷ drop c.loop-place.place xs) k) (sym same) sum);
      capped = subst (λ (u : Weighed). IsCapped u.weights.limit c.plus-sum.result) c.bases.view_is c.plus-sum.ensures.capped;
    }
