-- Lists of places that grow place by place.
use Rattle.std.proofs.Common.{◌≡◌, ℕ, zero, suc, ◌+◌, ◌<◌, ◌⊎◌, List, [], ◌∷◌, ◌++◌, Some, length, get_or, refl, sym, ap, ◌∙◌, subst, ⊎_elim, inl, inr, arith}
use Rattle.std.specs.Prelude.{slice_get}
use Rattle.std.proofs.lemmas.Bool.{cases_lt}
use Rattle.std.proofs.lemmas.List.{length-append}
use Rattle.std.proofs.lemmas.Option.{slice_get_within, slice_get-get_or}
use Rattle.cs_grammar.specs.Places.{IsEarlier}
use Rattle.cs_least.specs.Ways.Placed.{ArePlaced}

-- an empty list has no item
pub get_none : {X : Type 0} (l : List X) (i : ℕ) (x : X) → l ≡ [] → slice_get l i ≡ Some x → ⊥
get_none [] zero x e h = cc
get_none [] (suc i) x e h = cc
get_none (y ∷ l) i x e h = cc

-- the items of a list with one more at its end
pub get_kept : {X : Type 0} (l : List X) (x y : X) (i : ℕ) → slice_get l i ≡ Some y → slice_get (l ++ x ∷ []) i ≡ Some y
get_kept [] x y i h = absurd cc
get_kept (z ∷ l) x y zero h = h
get_kept (z ∷ l) x y (suc i) h = get_kept l x y i h

pub get_new : {X : Type 0} (l : List X) (x : X) → slice_get (l ++ x ∷ []) (length l) ≡ Some x
get_new [] x = refl
get_new (z ∷ l) x = get_new l x

pub get_cases : {X : Type 0} (l : List X) (x y : X) (i : ℕ) → slice_get (l ++ x ∷ []) i ≡ Some y → (slice_get l i ≡ Some y) ⊎ ((i ≡ length l) × (x ≡ y))
get_cases [] x y zero h = inr (refl, cc)
get_cases [] x y (suc i) h = absurd cc
get_cases (z ∷ l) x y zero h = inl h
get_cases (z ∷ l) x y (suc i) h = ⊎_elim (λ old. inl old) (λ new. inr (omega (arith, new.0), new.1)) (get_cases l x y i h)

-- the order of places
pub later : (r k q j : ℕ) → IsEarlier r k q j → IsEarlier r k q (j + 1)
later r k q j h = ⊎_elim (λ lower. inl lower) (λ here. inr (here.0, omega (arith, here.1))) h

pub place_cases : (r k q j : ℕ) → IsEarlier r k q (j + 1) → IsEarlier r k q j ⊎ ((r ≡ q) × (k ≡ j))
place_cases r k q j h =
    ⊎_elim (λ lower. inl (inl lower))
    (λ here. ⊎_elim (λ less. inl (inr (here.0, less))) (λ no. inr (here.0, omega (arith, here.1, no))) (cases_lt k j))
    h

pub not_both : (r k q j : ℕ) → IsEarlier r k q j → IsEarlier q j r k → ⊥
not_both r k q j a b =
    ⊎_elim
    (λ lower. ⊎_elim (λ higher. omega (arith, lower, higher)) (λ same. omega (arith, lower, same.0)) b)
    (λ here. ⊎_elim (λ higher. omega (arith, here.0, higher)) (λ same. omega (arith, here.1, same.1)) b)
    a

module _ {P S : Type 0} (rule place : P → ℕ) (Stands : P → S → Type 0) (Needs : ℕ → ℕ → Type 0) where
  -- no place needs anything
  pub placed_none : (Within : ℕ → ℕ → Type 0) (places : List P) (items : List S) → places ≡ [] → items ≡ [] → ((r k : ℕ) → Needs r k → Within r k → ⊥) → ArePlaced rule place Stands Needs Within places items
  placed_none Within places items e f none = record {
    many = ap (λ (l : List P). length l) e ∙ sym (ap (λ (l : List S). length l) f);
    each = λ i a s at. absurd (get_none places i a e at);
    every = λ r k needs within. absurd (none r k needs within);
    ordered = λ i k a b lt at. absurd (get_none places i a e at);
  }

  -- the part of the rules grows
  module _ (Old New : ℕ → ℕ → Type 0) (grows : (r k : ℕ) → Old r k → New r k) (places : List P) (items : List S) (so_far : ArePlaced rule place Stands Needs Old places items) where
    -- by places that need nothing
    pub placed_on : ((r k : ℕ) → Needs r k → New r k → Old r k) → ArePlaced rule place Stands Needs New places items
    placed_on none = record {
      many = so_far.many;
      each = λ i a s ha hs. let v = so_far.each i a s ha hs in (v.0, grows (rule a) (place a) v.1);
      every = λ r k needs new. so_far.every r k needs (none r k needs new);
      ordered = so_far.ordered;
    }

    module _ (a : P) (s : S) (stands : Stands a s) (here : New (rule a) (place a)) (cases : (r k : ℕ) → New r k → Old r k ⊎ ((r ≡ rule a) × (k ≡ place a))) where
      -- by a place behind all others
      pub placed_behind : ((r k : ℕ) → Old r k → IsEarlier r k (rule a) (place a)) → ArePlaced rule place Stands Needs New (places ++ a ∷ []) (items ++ s ∷ [])
      placed_behind behind = record {
        many = omega (arith, length-append places (a ∷ []), length-append items (s ∷ []), so_far.many);
        each = λ i b t hb ht.
            ⊎_elim
            (λ old. ⊎_elim
            (λ old'. let v = so_far.each i b t old old' in (v.0, grows (rule b) (place b) v.1))
            (λ new'. absurd (omega (arith, slice_get_within places i b old, new'.0, so_far.many)))
            (get_cases items s t i ht))
            (λ new. ⊎_elim
            (λ old'. absurd (omega (arith, slice_get_within items i t old', new.0, so_far.many)))
            (λ new'. (subst (λ z. Stands z t) new.1 (subst (Stands a) new'.1 stands), subst (λ z. New (rule z) (place z)) new.1 here))
            (get_cases items s t i ht))
            (get_cases places a b i hb);
        every = λ r k needs new.
            ⊎_elim
            (λ old.
            let v = so_far.every r k needs old in
            (v.0, v.1, v.2, get_kept places a v.1 v.0 v.3, get_kept items s v.2 v.0 v.4, v.5, v.6))
            (λ at. (
              length places,
              a,
              s,
              get_new places a,
              subst (λ i. slice_get (items ++ s ∷ []) i ≡ Some s) (sym so_far.many) (get_new items s),
              sym at.0,
              sym at.1,
            ))
            (cases r k new);
        ordered = λ i k b d lt hb hd.
            ⊎_elim
            (λ old_d. ⊎_elim
            (λ old_b. so_far.ordered i k b d lt old_b old_d)
            (λ new_b. absurd (omega (arith, slice_get_within places k d old_d, new_b.0, lt)))
            (get_cases places a b i hb))
            (λ new_d. ⊎_elim
            (λ old_b.
            let within = slice_get_within places i b old_b in
            let v = so_far.each i b (get_or items i s) old_b (slice_get-get_or items i s (omega (arith, within, so_far.many))) in
            subst (λ z. IsEarlier (rule b) (place b) (rule z) (place z)) new_d.1 (behind (rule b) (place b) v.1))
            (λ new_b. absurd (omega (arith, new_b.0, new_d.0, lt)))
            (get_cases places a b i hb))
            (get_cases places a d k hd);
      }

      -- by a place before all others
      pub placed_before : ((r k : ℕ) → Old r k → IsEarlier (rule a) (place a) r k) → ArePlaced rule place Stands Needs New (a ∷ places) (s ∷ items)
      placed_before before = record {
        many = ap suc so_far.many;
        each = λ i b t hb ht. each i b t hb ht;
        every = λ r k needs new.
            ⊎_elim
            (λ old. let v = so_far.every r k needs old in (suc v.0, v.1, v.2, v.3, v.4, v.5, v.6))
            (λ at. (0, a, s, refl, refl, sym at.0, sym at.1))
            (cases r k new);
        ordered = λ i k b d lt hb hd. ordered i k b d lt hb hd;
      }
        where
          each : (i : ℕ) (b : P) (t : S) → slice_get (a ∷ places) i ≡ Some b → slice_get (s ∷ items) i ≡ Some t → Stands b t × New (rule b) (place b)
          each zero b t hb ht =
              let same : a ≡ b = cc in
              let same' : s ≡ t = cc in
              (subst (λ z. Stands z t) same (subst (Stands a) same' stands), subst (λ z. New (rule z) (place z)) same here)
          each (suc i) b t hb ht = let v = so_far.each i b t hb ht in (v.0, grows (rule b) (place b) v.1)

          ordered : (i k : ℕ) (b d : P) → i < k → slice_get (a ∷ places) i ≡ Some b → slice_get (a ∷ places) k ≡ Some d → IsEarlier (rule b) (place b) (rule d) (place d)
          ordered zero zero b d lt hb hd = absurd (omega (arith, lt))
          ordered (suc i) zero b d lt hb hd = absurd (omega (arith, lt))
          ordered (suc i) (suc k) b d lt hb hd = so_far.ordered i k b d (omega (arith, lt)) hb hd
          ordered zero (suc k) b d lt hb hd =
              let same : a ≡ b = cc in
              let within = slice_get_within places k d hd in
              let v = so_far.each k d (get_or items k s) hd (slice_get-get_or items k s (omega (arith, within, so_far.many))) in
              subst (λ z. IsEarlier (rule z) (place z) (rule d) (place d)) same (before (rule d) (place d) v.1)

  -- up to a place of a rule
  abbrev ArePlacedTo : ℕ → ℕ → List P → List S → Type 0
  ArePlacedTo q j places items = ArePlaced rule place Stands Needs (λ r k. IsEarlier r k q j) places items

  module _ (q j : ℕ) (places : List P) (items : List S) (so_far : ArePlacedTo q j places items) where
    pub placed_skip : (Needs q j → ⊥) → ArePlacedTo q (j + 1) places items
    placed_skip none =
        placed_on (λ r k. IsEarlier r k q j) (λ r k. IsEarlier r k q (j + 1)) (λ r k h. later r k q j h) places items so_far
        (λ r k needs new. ⊎_elim (λ old. old) (λ at. absurd (none (subst (λ n. Needs n j) at.0 (subst (λ n. Needs r n) at.1 needs)))) (place_cases r k q j new))

    pub placed_push : (a : P) (s : S) → rule a ≡ q → place a ≡ j → Stands a s → ArePlacedTo q (j + 1) (places ++ a ∷ []) (items ++ s ∷ [])
    placed_push a s is_rule is_place stands =
        placed_behind (λ r k. IsEarlier r k q j) (λ r k. IsEarlier r k q (j + 1)) (λ r k h. later r k q j h) places items so_far a s stands
        (inr (is_rule, omega (arith, is_place)))
        (λ r k new. ⊎_elim (λ old. inl old) (λ at. inr (at.0 ∙ sym is_rule, at.1 ∙ sym is_place)) (place_cases r k q j new))
        (λ r k old. subst (λ n. IsEarlier r k n (place a)) (sym is_rule) (subst (λ n. IsEarlier r k q n) (sym is_place) old))

    -- behind the last place of a rule the next begins
    pub placed_next : ((k : ℕ) → Needs q k → k < j) → ArePlacedTo (q + 1) 0 places items
    placed_next past =
        placed_on (λ r k. IsEarlier r k q j) (λ r k. IsEarlier r k (q + 1) 0)
        (λ r k old. inl (⊎_elim (λ lower. omega (arith, lower)) (λ here. omega (arith, here.0)) old))
        places items so_far
        (λ r k needs new.
        ⊎_elim
        (λ lower. inl lower)
        (λ no.
        let same : r ≡ q = ⊎_elim (λ lower. omega (arith, lower, no)) (λ here. absurd (omega (arith, here.1))) new in
        inr (same, past k (subst (λ n. Needs n k) same needs)))
        (cases_lt r q))
