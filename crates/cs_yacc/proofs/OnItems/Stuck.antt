-- Where the table stops taking items.
use Rattle.std.proofs.Common.{◌≡◌, ℕ, ◌+◌, ◌<◌, ◌≤◌, Bool, true, false, cond, List, [], ◌∷◌, ◌++◌, length, drop, get_or, refl, sym, ap, subst, ◌∙◌}
use Rattle.std.specs.Prelude.{Option, Some, None}
use Rattle.std.proofs.lemmas.Bool.{false≢true}
use Rattle.std.proofs.lemmas.List.{at_drop_more, at_drop_all}
use Rattle.cs_yacc.specs.declared.items.item.Placed as held
use Rattle.cs_yacc.specs.Items.Views.{item_of, placed_of, placed_all}
use Rattle.cs_yacc.specs.Items.Items.{Placed, items_of}
use Rattle.cs_yacc.specs.Items.Table.{Place, declarations, next_place, Row, may_end, MayEnd, TakesTo, IsTaken, StuckFrom, at_item, at_end, IsStuck}

-- ---- the offset, found item by item

abbrev pub stuck_behind : Option Place → ℕ → ℕ → (Place → Option ℕ) → Option ℕ
stuck_behind None at length rest = Some at
stuck_behind (Some next) at length rest = rest next

abbrev pub stuck_at : Place → ℕ → List Placed → Option ℕ
stuck_at place length [] = cond (may_end place) None (Some length)
stuck_at place length (p ∷ ps) = stuck_behind (next_place place p.item) p.at length (λ next. stuck_at next length ps)

-- ---- what is found is where the table stops

stuck_more : (place next : Place) (len : ℕ) (p : Placed) (ps : List Placed) (at : ℕ) → Row place p.item next → StuckFrom next len ps at → StuckFrom place len (p ∷ ps) at
stuck_more place next len p ps at row (at_item front q behind ending e l none is) = at_item (p ∷ front) q behind ending (ap (λ (x : List Placed). p ∷ x) e) (next, row, l) none is
stuck_more place next len p ps at row (at_end ending l none is) = at_end ending (next, row, l) none is

some_at : (place : Place) (len : ℕ) (ps : List Placed) (at : ℕ) → stuck_at place len ps ≡ Some at → StuckFrom place len ps at
some_at place len [] at e = by_end (may_end place) refl e
  where
    by_end : (b : Bool) → may_end place ≡ b → cond b None (Some len) ≡ Some at → StuckFrom place len [] at
    by_end true m f = absurd cc
    by_end false m f = at_end place refl (λ t. false≢true (sym m ∙ t)) (cc)
some_at place len (p ∷ ps) at e = by_next (λ next f. some_at next len ps at f) (next_place place p.item) refl e
  where
    by_next : ((next : Place) → stuck_at next len ps ≡ Some at → StuckFrom next len ps at) → (o : Option Place) → next_place place p.item ≡ o → stuck_behind o p.at len (λ next. stuck_at next len ps) ≡ Some at → StuckFrom place len (p ∷ ps) at
    by_next rest None m f = at_item [] p ps place refl refl (λ next row. let g : None ≡ Some next = sym m ∙ row in absurd cc) (cc)
    by_next rest (Some next) m f = stuck_more place next len p ps at m (rest next f)

none_at : (place : Place) (len : ℕ) (ps : List Placed) → stuck_at place len ps ≡ None → (ending : Place) × TakesTo place (items_of ps) ending × MayEnd ending
none_at place len [] e = by_end (may_end place) refl e
  where
    by_end : (b : Bool) → may_end place ≡ b → cond b None (Some len) ≡ None → (ending : Place) × TakesTo place [] ending × MayEnd ending
    by_end true m f = (place, refl, m)
    by_end false m f = absurd cc
none_at place len (p ∷ ps) e = by_next (λ next f. none_at next len ps f) (next_place place p.item) refl e
  where
    by_next : ((next : Place) → stuck_at next len ps ≡ None → (ending : Place) × TakesTo next (items_of ps) ending × MayEnd ending) → (o : Option Place) → next_place place p.item ≡ o → stuck_behind o p.at len (λ next. stuck_at next len ps) ≡ None
        → (ending : Place) × TakesTo place (items_of (p ∷ ps)) ending × MayEnd ending
    by_next rest None m f = absurd cc
    by_next rest (Some next) m f = let r = rest next f in (r.0, (next, m, r.1), r.2)

pub stuck_from_some : (len : ℕ) (ps : List Placed) (at : ℕ) → Some at ≡ stuck_at declarations len ps → IsStuck len ps at
stuck_from_some len ps at e = some_at declarations len ps at (sym e)

pub taken_from_none : (len : ℕ) (ps : List Placed) → None ≡ stuck_at declarations len ps → IsTaken (items_of ps)
taken_from_none len ps e = none_at declarations len ps (sym e)

-- and back
item_stuck : (place : Place) (len : ℕ) (front : List Placed) (p : Placed) (behind : List Placed) (ending : Place) → TakesTo place (items_of front) ending → ((next : Place) → ¬ Row ending p.item next) → stuck_at place len (front ++ p ∷ behind) ≡ Some p.at
item_stuck place len [] p behind ending l none = by_next (next_place place p.item) refl
  where
    by_next : (o : Option Place) → next_place place p.item ≡ o → stuck_behind o p.at len (λ next. stuck_at next len behind) ≡ Some p.at
    by_next None m = refl
    by_next (Some next) m = absurd (none next (subst (λ (x : Place). Row x p.item next) l m))
item_stuck place len (q ∷ front) p behind ending l none = rw (l.1) (item_stuck l.0 len front p behind ending l.2 none)

end_stuck : (place : Place) (len : ℕ) (ps : List Placed) (ending : Place) → TakesTo place (items_of ps) ending → ¬ MayEnd ending → stuck_at place len ps ≡ Some len
end_stuck place len [] ending l none = by_end (may_end place) refl
  where
    by_end : (b : Bool) → may_end place ≡ b → cond b None (Some len) ≡ Some len
    by_end true m = absurd (none (subst MayEnd l m))
    by_end false m = refl
end_stuck place len (p ∷ ps) ending l none = rw (l.1) (end_stuck l.0 len ps ending l.2 none)

taken_none : (place : Place) (len : ℕ) (ps : List Placed) (ending : Place) → TakesTo place (items_of ps) ending → MayEnd ending → stuck_at place len ps ≡ None
taken_none place len [] ending l m = let e : may_end place ≡ true = subst MayEnd (sym l) m in rw e refl
taken_none place len (p ∷ ps) ending l m = rw (l.1) (taken_none l.0 len ps ending l.2 m)

stuck_is : (len : ℕ) (ps : List Placed) (at : ℕ) → IsStuck len ps at → stuck_at declarations len ps ≡ Some at
stuck_is len ps at (at_item front p behind ending e l none is) = rw (e, is) (item_stuck declarations len front p behind ending l none)
stuck_is len ps at (at_end ending l none is) = rw is (end_stuck declarations len ps ending l none)

-- the table stops at one place
pub one_stuck : (len : ℕ) (ps : List Placed) (a b : ℕ) → IsStuck len ps a → IsStuck len ps b → a ≡ b
one_stuck len ps a b s t = let e : Some a ≡ Some b = sym (stuck_is len ps a s) ∙ stuck_is len ps b t in cc

-- and not where it takes all
pub stuck_not_taken : (len : ℕ) (ps : List Placed) (a : ℕ) → IsStuck len ps a → IsTaken (items_of ps) → ⊥
stuck_not_taken len ps a s t = let e : Some a ≡ None = sym (stuck_is len ps a s) ∙ taken_none declarations len ps t.0 t.1 t.2 in cc

-- ---- what the code finds

pub stuck_at_item : (place : Place) (len : ℕ) (all : List held.Placed) (k : ℕ) (d : held.Placed) → stuck_at place len (placed_all (drop k all)) ≡ stuck_at declarations len (placed_all all) → k < length all
    → None ≡ next_place place (item_of (get_or all k d).item) → IsStuck len (placed_all all) (get_or all k d).at
stuck_at_item place len all k d h lt none =
    let more : placed_all (drop k all) ≡ placed_of (get_or all k d) ∷ placed_all (drop (k + 1) all) = at_drop_more (λ xs. placed_all xs) all k d lt in
    let here : stuck_at place len (placed_all (drop k all)) ≡ Some (get_or all k d).at = rw (more, ← none) refl in
    stuck_from_some len (placed_all all) (get_or all k d).at (sym here ∙ h)

module _ (place : Place) (len : ℕ) (all : List held.Placed) (k : ℕ) (h : stuck_at place len (placed_all (drop k all)) ≡ stuck_at declarations len (placed_all all)) (past : length all ≤ k) where
  none_left : placed_all (drop k all) ≡ []
  none_left = at_drop_all (λ xs. placed_all xs) all k past

  pub taken_at_end : true ≡ may_end place → IsTaken (items_of (placed_all all))
  taken_at_end ends = let here : stuck_at place len (placed_all (drop k all)) ≡ None = rw (none_left, ← ends) refl in taken_from_none len (placed_all all) (sym here ∙ h)

  pub stuck_at_end : false ≡ may_end place → IsStuck len (placed_all all) len
  stuck_at_end stays = let here : stuck_at place len (placed_all (drop k all)) ≡ Some len = rw (none_left, ← stays) refl in stuck_from_some len (placed_all all) len (sym here ∙ h)
