-- What the rests of a right side cost, from its end on.
use Rattle.std.proofs.Common.{◌≡◌, ℕ, ◌+◌, ◌-◌, ◌<◌, ◌≤◌, List, [], ◌∷◌, ◌++◌, length, get_or, take, drop, replicate, sym, ap, ◌∙◌, subst, ⊎_elim, arith}
use Rattle.std.proofs.Math.ListN.{set}
use Rattle.std.proofs.lemmas.Bool.{cases_eq}
use Rattle.std.proofs.lemmas.List.{take_all, at_drop_all, at_drop_more, get_or-replicate, get_or-set_same, get_or-set_other, get_or_default}
use Rattle.cs_grammar.specs.declared.symbol.Symbol.{Symbol}
use Rattle.cs_grammar.specs.Weights.{Weighed}
use Rattle.cs_least.specs.declared.cost.cost.Cost.{Cost}
use Rattle.cs_least.specs.declared.cost.cost.Cost.TheVariants.{Never, Least}
use Rattle.cs_least.specs.Cost.Rank.{plus}
use Rattle.cs_least.specs.Cost.Trees.{IsTreeCost, AreTreesCost}
use Rattle.cs_least.proofs.OnCost.TreeLists.{trees_none, trees_one, trees_join}

-- a list that was emptied and then filled up
pub filled_up : (n : ℕ) (x : Cost) → take n [] ++ replicate (n - 0) x ≡ replicate n x
filled_up n x =
    let none : List Cost = [] in
    ap (λ (l : List Cost). l ++ replicate (n - 0) x) (take_all n none (omega arith)) ∙ ap (λ m. replicate m x) (omega arith)

-- behind the last symbol there is nothing
pub rest_none : (v : Weighed) (xs : List Symbol) (k : ℕ) → length xs ≤ k → k ≤ length xs → AreTreesCost v (drop k xs) (get_or (replicate (length xs + 1) (Least 0)) k Never)
rest_none v xs k above below =
    subst (AreTreesCost v (drop k xs)) (sym (get_or-replicate (length xs + 1) k (Least 0) Never (omega (arith, below))))
    (subst (λ (l : List Symbol). AreTreesCost v l (Least 0)) (sym (at_drop_all (λ (l : List Symbol). l) xs k above)) (trees_none v.weights v.grammar))

-- the rest from a place on is the symbol there and the rest from the next place on
module _ (v : Weighed) (xs : List Symbol) (rest : List Cost) (j : ℕ) (d : Symbol) (a b : Cost) (within : j < length xs) (many : length rest ≡ length xs + 1) (one : IsTreeCost v (get_or xs j d) a) (read : b ≡ get_or rest (j + 1) b) (each : (k : ℕ) → j + 1 ≤ k → k ≤ length xs → AreTreesCost v (drop k xs) (get_or rest k Never)) where
  next : AreTreesCost v (drop (j + 1) xs) b
  next =
      let same = get_or_default rest (j + 1) Never b (omega (arith, within, many)) in
      subst (AreTreesCost v (drop (j + 1) xs)) (same ∙ sym read) (each (j + 1) (omega arith) (omega (arith, within)))

  whole : AreTreesCost v (drop j xs) (plus v.weights.limit a b)
  whole =
      subst (λ (l : List Symbol). AreTreesCost v l (plus v.weights.limit a b)) (sym (at_drop_more (λ (l : List Symbol). l) xs j d within))
      (trees_join v.weights v.grammar (get_or xs j d ∷ []) (drop (j + 1) xs) a b (trees_one v.weights v.grammar (get_or xs j d) a one) next)

  pub rest_more : (k : ℕ) → j ≤ k → k ≤ length xs → AreTreesCost v (drop k xs) (get_or (set rest j (plus v.weights.limit a b)) k Never)
  rest_more k above below =
      ⊎_elim
      (λ same.
      subst (λ m. AreTreesCost v (drop m xs) (get_or (set rest j (plus v.weights.limit a b)) m Never)) (sym same)
      (subst (AreTreesCost v (drop j xs)) (sym (get_or-set_same rest j (plus v.weights.limit a b) Never (omega (arith, within, many)))) whole))
      (λ other.
      subst (AreTreesCost v (drop k xs)) (sym (get_or-set_other rest j k (plus v.weights.limit a b) Never other)) (each k (omega (arith, above, other)) below))
      (cases_eq k j)
