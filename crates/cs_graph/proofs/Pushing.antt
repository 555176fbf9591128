-- Nodes put behind an order.
use Rattle.std.proofs.Common.{◌≡◌, ◌⊎◌, ℕ, ◌+◌, ◌<◌, Bool, true, false, List, [], ◌∷◌, ◌++◌, length, get_or, refl, sym, ap, ◌∙◌, subst, arith, inl, inr, length-append}
use Rattle.std.specs.Prelude.{Contains}
use Rattle.std.specs.Global.{Vec}
use Rattle.std.proofs.Math.ListN.{set, length-set}
use Rattle.std.proofs.lemmas.Bool.{cases_eq}
use Rattle.std.proofs.lemmas.List.Elements.{Contains-append_left, Contains-append_cases, Contains-push}
use Rattle.cs_graph.specs.Graph.{Edge, IsOrdered}
use Rattle.cs_graph.specs.Marks.{IsMarked}
use Rattle.cs_graph.specs.Order.{IsPartial}
use Rattle.cs_graph.proofs.Counting.{unmarked-set, marked_there, marked_still, marked_before, unmarked_not}
use Rattle.cs_graph.proofs.Single.{contained_alone}

pub not_nil : (xs ys : List ℕ) (y : ℕ) → [] ≡ xs ++ y ∷ ys → ⊥
not_nil xs ys y e = let f : 0 ≡ length (xs ++ y ∷ ys) = ap length e in absurd (omega (arith, length-append xs (y ∷ ys)))

-- an element of a list with one more behind it: the last one, or one of the list
pub split_last : (xs before after : List ℕ) (x y : ℕ) → xs ++ x ∷ [] ≡ before ++ y ∷ after → ((before ≡ xs) × (y ≡ x)) ⊎ ((rest : List ℕ) × (xs ≡ before ++ y ∷ rest))
split_last [] [] after x y e = inl (refl, cc)
split_last [] (b ∷ before) after x y e = let f : [] ≡ before ++ y ∷ after = cc in absurd (not_nil before after y f)
split_last (a ∷ xs) [] after x y e = inr (xs, let f : a ≡ y = cc in ap (λ z. z ∷ xs) f)
split_last (a ∷ xs) (b ∷ before) after x y e =
    let f : xs ++ x ∷ [] ≡ before ++ y ∷ after = cc in
    let g : a ≡ b = cc in
    elim (split_last xs before after x y f) [
      | inl last ↦ let h = last.0 in inl (cc, last.1)
      | inr inner ↦ let h = inner.1 in inr (inner.0, cc)
    ]

pub below_next : (i n : ℕ) → i < n + 1 → (i < n) ⊎ (i ≡ n)
below_next i n lt = elim (cases_eq i n) [ inl same ↦ inr same | inr other ↦ inl (omega arith) ]

module _ (graph : List (Vec ℕ)) where
  pub ordered_push : (order : List ℕ) (node : ℕ) → IsOrdered graph order → node < length graph → (Contains order node → ⊥) → ((to : ℕ) → Edge graph node to → Contains order to) → IsOrdered graph (order ++ node ∷ [])
  ordered_push order node o lt new ready = record {
    within = λ i h. elim (Contains-append_cases order (node ∷ []) i h) [ inl before ↦ o.within i before | inr here ↦ subst (λ n. n < length graph) (sym (contained_alone node i here)) lt ];
    behind = λ before after i to is e. elim (split_last order before after node i is) [
      | inl last ↦ subst (λ (xs : List ℕ). Contains xs to) (sym last.0) (ready to (subst (λ n. Edge graph n to) last.1 e))
      | inr inner ↦ o.behind before inner.0 i to inner.1 e
    ];
    once = λ before after i is h. elim (split_last order before after node i is) [
      | inl last ↦ new (subst (Contains order) last.1 (subst (λ (xs : List ℕ). Contains xs i) last.0 h))
      | inr inner ↦ o.once before inner.0 i inner.1 h
    ];
  }

  pub partial_push : (ready : List Bool) (order : List ℕ) (node : ℕ) → IsPartial graph ready order → node < length graph → get_or ready node false ≡ false → ((to : ℕ) → Edge graph node to → IsMarked ready to) → IsPartial graph (set ready node true) (order ++ node ∷ [])
  partial_push ready order node p lt e successors =
      let there : node < length ready = omega (arith, p.size) in
      record {
        size = length-set ready node true ∙ p.size;
        ordered = ordered_push order node p.ordered lt (λ h. unmarked_not ready node e (p.marked node h)) (λ to f. p.listed to (successors to f));
        marked = λ i h. elim (Contains-append_cases order (node ∷ []) i h) [
          | inl before ↦ marked_still ready node i (p.marked i before)
          | inr here ↦ subst (IsMarked (set ready node true)) (sym (contained_alone node i here)) (marked_there ready node there)
        ];
        listed = λ i h. elim (marked_before ready node i h) [
          | inl before ↦ Contains-append_left order (node ∷ []) i (p.listed i before)
          | inr here ↦ subst (Contains (order ++ node ∷ [])) (sym here) (Contains-push order node)
        ];
        count = omega (arith, p.count, unmarked-set ready node there e, length-append order (node ∷ []));
      }
