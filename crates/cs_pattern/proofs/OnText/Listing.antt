-- The loops over items: what they have found so far, and one item more.
use Rattle.std.proofs.Common.{◌≡◌, ℕ, zero, suc, ◌+◌, ◌<◌, List, [], ◌∷◌, ◌++◌, length, get_or, take, drop, refl, sym, ap, ◌∙◌, subst, inl, inr, arith}
use Rattle.std.specs.Prelude.{Some, slice_get}
use Rattle.std.specs.List.{filter_map, AllByRecursion}
use Rattle.std.specs.Global.{Vec}
use Rattle.std.proofs.Math.Seq.{drop-cons}
use Rattle.std.proofs.lemmas.List.{take_more, map_push, take-append-drop, map-append}
use Rattle.std.proofs.lemmas.List.Elements.{filter_map-append}
use Rattle.cs_graph.proofs.Pushing.{below_next}
use Rattle.cs_pattern_parts.specs.declared.items.item.Placed as held
use Rattle.cs_pattern_parts.specs.Items.Items.{Placed, items_of}
use Rattle.cs_pattern_parts.specs.Items.Views.{item_of, placed_of, placed_all}
use Rattle.cs_pattern.specs.Operations.Definitions.{Definition}
use Rattle.cs_pattern.specs.Text.Uses.{used, Uses, LeadsTo, IsFirstTo}
use Rattle.cs_pattern.proofs.OnText.Linked.{HasUses}
use Rattle.cs_pattern.proofs.OnText.Staged.{get_still, get_last}

-- one item more
one_more : (items : List held.Placed) (k : ℕ) (p : held.Placed) → k < length items → p ≡ get_or items k p → take (k + 1) items ≡ take k items ++ p ∷ []
one_more items k p lt is = take_more items k p lt ∙ ap (λ (q : held.Placed). take k items ++ q ∷ []) (sym is)

one_more_placed : (items : List held.Placed) (k : ℕ) (p : held.Placed) → k < length items → p ≡ get_or items k p → placed_all (take (k + 1) items) ≡ placed_all (take k items) ++ placed_of p ∷ []
one_more_placed items k p lt is = ap placed_all (one_more items k p lt is) ∙ map_push placed_of (take k items) p

pub more_uses : (ds : List Definition) (items : List held.Placed) (k : ℕ) (p : held.Placed) (us more : List ℕ) → k < length items → p ≡ get_or items k p
    → us ≡ filter_map (used ds) (items_of (placed_all (take k items))) → more ≡ us ++ filter_map (used ds) (item_of p.item ∷ []) → more ≡ filter_map (used ds) (items_of (placed_all (take (k + 1) items)))
more_uses ds items k p us more lt is e f =
    let m : items_of (placed_all (take (k + 1) items)) ≡ items_of (placed_all (take k items)) ++ item_of p.item ∷ [] =
    ap items_of (one_more_placed items k p lt is) ∙ map_push (λ (q : Placed). q.item) (placed_all (take k items)) (placed_of p) in
    f ∙ ap (λ (xs : List ℕ). xs ++ filter_map (used ds) (item_of p.item ∷ [])) e
    ∙ sym (filter_map-append (used ds) (items_of (placed_all (take k items))) (item_of p.item ∷ []))
    ∙ ap (filter_map (used ds)) (sym m)

-- what an item names, the items use
pub item_used : (ds : List Definition) (next : ℕ) (items : List held.Placed) (k : ℕ) (p : held.Placed) → k < length items → p ≡ get_or items k p → used ds (placed_of p).item ≡ Some next → Uses ds (items_of (placed_all items)) next
item_used ds next [] k p lt is e = absurd (omega arith)
item_used ds next (q ∷ items) zero p lt is e = inl (subst (λ (x : held.Placed). used ds (placed_of x).item ≡ Some next) is e)
item_used ds next (q ∷ items) (suc k) p lt is e = inr (item_used ds next items k p (omega arith) is e)

pub first_there : (ds : List Definition) (to : ℕ) (items : List held.Placed) (k : ℕ) (p : held.Placed) → k < length items → p ≡ get_or items k p
    → LeadsTo ds to (placed_of p) → AllByRecursion (λ q. LeadsTo ds to q → ⊥) (placed_all (take k items)) → IsFirstTo ds to (placed_all items) p.at
first_there ds to items k p lt is leads none =
    let split : items ≡ take k items ++ p ∷ drop (suc k) items =
    sym (take-append-drop k items) ∙ ap (λ (xs : List held.Placed). take k items ++ xs) (drop-cons items k p lt ∙ ap (λ (q : held.Placed). q ∷ drop (suc k) items) (sym is)) in
    record {
      before = placed_all (take k items);
      first = placed_of p;
      behind = placed_all (drop (suc k) items);
      is = ap placed_all split ∙ map-append placed_of (take k items) (p ∷ drop (suc k) items);
      place = refl;
      leads = leads;
      none_before = none;
    }

-- ---- rows of the graph

module _ (ds : List Definition) (all : List (Vec held.Placed)) (graph : List (Vec ℕ)) where
  pub more_rows : (k : ℕ) (items : Vec held.Placed) (row : Vec ℕ) → length graph ≡ k → slice_get all k ≡ Some items → row.items ≡ filter_map (used ds) (items_of (placed_all items.items))
      → ((i : ℕ) (v : Vec held.Placed) → i < k → slice_get all i ≡ Some v → HasUses ds graph i v.items)
      → (i : ℕ) (v : Vec held.Placed) → i < k + 1 → slice_get all i ≡ Some v → HasUses ds (graph ++ row ∷ []) i v.items
  more_rows k items row count is are rows i v lt e = elim (below_next i k lt) [
    | inl before ↦ let h = rows i v before e in record { row = h.row; there = get_still graph row i (omega arith) ∙ h.there; are = h.are }
    | inr here ↦
        let f : slice_get all k ≡ Some v = subst (λ n. slice_get all n ≡ Some v) here e in
        let same : items ≡ v = cc (is, f) in
        record { row = row; there = get_last graph row i (here ∙ sym count); are = are ∙ ap (λ (w : Vec held.Placed). filter_map (used ds) (items_of (placed_all w.items))) same }
  ]
