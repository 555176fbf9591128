-- Lists that were met are those of the slips before.
use Rattle.std.proofs.Common.{◌≡◌, ◌↔◌, ◌⊎◌, ℕ, Bool, true, false, List, [], ◌∷◌, ◌++◌, refl, sym, subst, ⊎_elim, inl, inr, arith}
use Rattle.std.specs.Prelude.{IsTrue, if◌then◌else◌}
use Rattle.std.specs.List.{Contains}
use Rattle.std.proofs.lemmas.List.Elements.{Contains-append_left, Contains-push, Contains-push_cases}
use Rattle.cs_grammar.proofs.OneTree.{one_rule}
use Rattle.cs_grammar.specs.Grammar.{Production}
use Rattle.cs_grammar.specs.Weights.{Weighed}
use Rattle.cs_grammar.specs.declared.symbol.Symbol.TheVariants.{Nonterminal}
use Rattle.cs_least.proofs.OnCost.ChosenTrees.{AreTrees-chosen}
use Rattle.cs_least.proofs.OnEmbed.ChosenContexts.{IsContext-chosen}
use Rattle.cs_least.specs.declared.cost.cost.Cost.TheVariants as costs
use Rattle.cs_wrong.proofs.OnSlips.Placing.{one_list}
use Rattle.cs_wrong.specs.Classes.Classes.{IsMet}
use Rattle.cs_wrong.specs.Classes.Coming.{Meets, TellsAgain}
use Rattle.cs_wrong.specs.Slips.Found.{TellsList}
use Rattle.cs_wrong.specs.Slips.Lists.{ArePlaced, HasLarge, HasNone, IsListOf, IsPlacedCost, IsPlacedList}
use Rattle.cs_wrong.specs.Slips.Slips.{changed}
use Rattle.cs_wrong.specs.declared.slips.lists.SlipList.{SlipList}
use Rattle.cs_wrong.specs.declared.slips.lists.SlipList.TheVariants.{Nothing, Large, Tokens}
use Rattle.cs_wrong.specs.declared.slips.slip.Slip.{Slip}
use Rattle.cs_wrong.specs.declared.slips.slip.Slip.TheVariants.{Empty, Of}

module _ (v : Weighed) where
  -- what is chosen is a context with trees
  placed : (r left : ℕ) (p : Production) (list : List ℕ) → (is : IsPlacedList v r p.left (p.right) list) → ArePlaced v.grammar p.left p.right (is.context, is.trees)
  placed r left p list is = (IsContext-chosen v.weights v.grammar is.context (Nonterminal p.left) is.around, AreTrees-chosen v.weights v.grammar is.trees p.right is.chosen)

  -- a slip that has no list, or one above the limit, has none
  pub none_no_list : (slip : Slip) → HasNone v slip → (list : List ℕ) → IsListOf v slip list → ⊥
  none_no_list Empty h list is = h
  none_no_list (Of r change) h list is =
      let same = one_rule v.grammar r r h.0 is.0 refl h.1 is.1 in
      let cost = subst (λ (p : Production). IsPlacedCost v p.left (changed change p.right) costs.Never) same h.2 in
      let side : Production = record { left = is.0.left; right = changed change is.0.right } in
      cost (is.2.context, is.2.trees) (placed r 0 side list is.2)

  pub large_no_list : (slip : Slip) → HasLarge v slip → (list : List ℕ) → IsListOf v slip list → ⊥
  large_no_list Empty h list is = h
  large_no_list (Of r change) h list is =
      let same = one_rule v.grammar r r h.0 is.0 refl h.1 is.1 in
      let cost = subst (λ (p : Production). IsPlacedCost v p.left (changed change p.right) costs.Large) same h.2 in
      let side : Production = record { left = is.0.left; right = changed change is.0.right } in
      omega (arith, cost.2 (is.2.context, is.2.trees) (placed r 0 side list is.2), is.2.within)

  pub none_not_large : (slip : Slip) → HasNone v slip → HasLarge v slip → ⊥
  none_not_large Empty h k = h
  none_not_large (Of r change) h k =
      let same = one_rule v.grammar r r h.0 k.0 refl h.1 k.1 in
      let cost = subst (λ (p : Production). IsPlacedCost v p.left (changed change p.right) costs.Never) same h.2 in
      cost k.2.0 k.2.1

  -- a list that one slip more has
  pub met_before : (earlier : List Slip) (slip : Slip) (list : List ℕ) → IsMet v earlier list → IsMet v (earlier ++ slip ∷ []) list
  met_before earlier slip list h =
      let there = Contains-append_left earlier (slip ∷ []) h.1 (h.0, h.2, h.3) in
      (there.0, h.1, there.1, there.2, h.4)

  pub met_now : (earlier : List Slip) (slip : Slip) (list : List ℕ) → IsListOf v slip list → IsMet v (earlier ++ slip ∷ []) list
  met_now earlier slip list is =
      let there = Contains-push earlier slip in
      (there.0, slip, there.1, there.2, is)

  pub met_cases : (earlier : List Slip) (slip : Slip) (list : List ℕ) → IsMet v (earlier ++ slip ∷ []) list → IsMet v earlier list ⊎ IsListOf v slip list
  met_cases earlier slip list h =
      ⊎_elim
      (λ before. inl (before.0, h.1, before.1, before.2, h.4))
      (λ same. inr (subst (λ (s : Slip). IsListOf v s list) (sym same) h.4))
      (Contains-push_cases earlier slip h.1 (h.0, h.2, h.3))

  module _ (earlier : List Slip) (slip : Slip) (met : List (List ℕ)) (knows : (list : List ℕ) → Contains met list ↔ IsMet v earlier list) where
    no_list_more : ((list : List ℕ) → IsListOf v slip list → ⊥) → (list : List ℕ) → Contains met list ↔ IsMet v (earlier ++ slip ∷ []) list
    no_list_more none list = (
      (λ there. met_before earlier slip list ((knows list).0 there)),
      (λ is. ⊎_elim (λ before. (knows list).1 before) (λ now. absurd (none list now)) (met_cases earlier slip list is)),
    )

    again_more : (own : List ℕ) → IsListOf v slip own → Contains met own → (list : List ℕ) → Contains met list ↔ IsMet v (earlier ++ slip ∷ []) list
    again_more own is there list = (
      (λ known. met_before earlier slip list ((knows list).0 known)),
      (λ h. ⊎_elim (λ before. (knows list).1 before) (λ now. subst (λ (l : List ℕ). Contains met l) (one_list v slip own list is now) there) (met_cases earlier slip list h)),
    )

    new_more : (own : List ℕ) → IsListOf v slip own → (list : List ℕ) → Contains (met ++ own ∷ []) list ↔ IsMet v (earlier ++ slip ∷ []) list
    new_more own is list = (
      (λ known. ⊎_elim (λ before. met_before earlier slip list ((knows list).0 before)) (λ same. met_now earlier slip list (subst (λ (l : List ℕ). IsListOf v slip l) same is)) (Contains-push_cases met own list known)),
      (λ h. ⊎_elim (λ before. Contains-append_left met (own ∷ []) list ((knows list).1 before)) (λ now. subst (λ (l : List ℕ). Contains (met ++ own ∷ []) l) (one_list v slip own list is now) (Contains-push met own)) (met_cases earlier slip list h)),
    )

    with_tokens : (own : List ℕ) (again : Bool) (new : List (List ℕ)) → IsListOf v slip own → IsTrue again ↔ Contains met own → new ≡ (if again then met else met ++ own ∷ []) → (list : List ℕ) → Contains new list ↔ IsMet v (earlier ++ slip ∷ []) list
    with_tokens own true new is told same list = subst (λ (l : List (List ℕ)). Contains l list ↔ IsMet v (earlier ++ slip ∷ []) list) (sym same) (again_more own is (told.0 refl) list)
    with_tokens own false new is told same list = subst (λ (l : List (List ℕ)). Contains l list ↔ IsMet v (earlier ++ slip ∷ []) list) (sym same) (new_more own is list)

    -- the lists that are known behind one slip more
    pub knows_more : (found : SlipList) (again : Bool) (new : List (List ℕ)) → TellsList v slip found → Meets met found again new → (list : List ℕ) → Contains new list ↔ IsMet v (earlier ++ slip ∷ []) list
    knows_more Nothing again new tells meets list = subst (λ (l : List (List ℕ)). Contains l list ↔ IsMet v (earlier ++ slip ∷ []) list) (sym meets.1) (no_list_more (none_no_list slip tells) list)
    knows_more Large again new tells meets list = subst (λ (l : List (List ℕ)). Contains l list ↔ IsMet v (earlier ++ slip ∷ []) list) (sym meets.1) (no_list_more (large_no_list slip tells) list)
    knows_more (Tokens own) again new tells meets list = with_tokens own.items again new tells meets.0 meets.1 list

    -- whether its own list was met
    pub tells_again : (found : SlipList) (again : Bool) (new : List (List ℕ)) → Meets met found again new → TellsAgain v earlier found again
    tells_again Nothing again new meets = tt
    tells_again Large again new meets = tt
    tells_again (Tokens own) again new meets = ((λ t. (knows own.items).0 (meets.0.0 t)), (λ h. meets.0.1 ((knows own.items).1 h)))
