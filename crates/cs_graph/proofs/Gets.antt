-- Elements of lists by their places.
use Rattle.std.proofs.Common.{◌≡◌, ◌⊎◌, ℕ, zero, suc, ◌<◌, ◌≤◌, List, [], ◌∷◌, ◌++◌, length, take, drop, replicate, refl, ap, ◌∙◌, arith, inl, inr}
use Rattle.std.specs.Prelude.{Some, Contains, slice_get}
use Rattle.std.proofs.Math.ListN.{set}
use Rattle.std.proofs.lemmas.Option.{get_or_from_slice_get, slice_get_within, slice_get-get_or}

module _ {X : Type 0} where
  pub get_left : (xs ys : List X) (k : ℕ) (x : X) → slice_get xs k ≡ Some x → slice_get (xs ++ ys) k ≡ Some x
  get_left [] ys k x e = absurd cc
  get_left (y ∷ xs) ys zero x e = e
  get_left (y ∷ xs) ys (suc k) x e = get_left xs ys k x e

  pub get_pushed : (xs : List X) (x : X) → slice_get (xs ++ x ∷ []) (length xs) ≡ Some x
  get_pushed [] x = refl
  get_pushed (y ∷ xs) x = get_pushed xs x

  pub get_contains : (xs : List X) (k : ℕ) (x : X) → slice_get xs k ≡ Some x → Contains xs x
  get_contains xs k x e = (k, slice_get_within xs k x e, get_or_from_slice_get xs k x x e)

  pub contains_get : (xs : List X) (x : X) → Contains xs x → (k : ℕ) × (slice_get xs k ≡ Some x)
  contains_get xs x (k, lt, e) = (k, slice_get-get_or xs k x lt ∙ ap Some e)

  pub get_cases : (xs ys : List X) (k : ℕ) (x : X) → slice_get (xs ++ ys) k ≡ Some x → (slice_get xs k ≡ Some x) ⊎ ((length xs ≤ k) × Contains ys x)
  get_cases [] ys k x e = inr (omega arith, get_contains ys k x e)
  get_cases (y ∷ xs) ys zero x e = inl e
  get_cases (y ∷ xs) ys (suc k) x e = elim (get_cases xs ys k x e) [ inl h ↦ inl h | inr h ↦ inr (let le = h.0 in omega arith, h.1) ]

  pub get_push_cases : (xs : List X) (y : X) (k : ℕ) (x : X) → slice_get (xs ++ y ∷ []) k ≡ Some x → (slice_get xs k ≡ Some x) ⊎ ((k ≡ length xs) × (x ≡ y))
  get_push_cases [] y zero x e = inr (refl, cc)
  get_push_cases [] y (suc k) x e = absurd cc
  get_push_cases (z ∷ xs) y zero x e = inl e
  get_push_cases (z ∷ xs) y (suc k) x e = elim (get_push_cases xs y k x e) [ inl h ↦ inl h | inr h ↦ inr (let same = h.0 in omega arith, h.1) ]

  pub get_right : (xs ys : List X) (x : X) → Contains ys x → (k : ℕ) × (length xs ≤ k) × (slice_get (xs ++ ys) k ≡ Some x)
  get_right [] ys x h = let g = contains_get ys x h in (g.0, omega arith, g.1)
  get_right (y ∷ xs) ys x h = let g = get_right xs ys x h in (suc g.0, let le = g.1 in omega arith, g.2)

  pub get_taken : (xs : List X) (n k : ℕ) (x : X) → slice_get (take n xs) k ≡ Some x → (k < n) × (slice_get xs k ≡ Some x)
  get_taken xs zero k x e = absurd cc
  get_taken [] (suc n) k x e = absurd cc
  get_taken (y ∷ xs) (suc n) zero x e = (omega arith, e)
  get_taken (y ∷ xs) (suc n) (suc k) x e = let h = get_taken xs n k x e in (let lt = h.0 in omega arith, h.1)

  pub get_take : (xs : List X) (n k : ℕ) (x : X) → k < n → slice_get xs k ≡ Some x → slice_get (take n xs) k ≡ Some x
  get_take xs zero k x lt e = absurd (omega arith)
  get_take [] (suc n) k x lt e = absurd cc
  get_take (y ∷ xs) (suc n) zero x lt e = e
  get_take (y ∷ xs) (suc n) (suc k) x lt e = get_take xs n k x (omega arith) e

  -- what is behind the place
  pub get_dropped : (xs : List X) (n : ℕ) (x : X) → Contains (drop n xs) x → (k : ℕ) × (n ≤ k) × (slice_get xs k ≡ Some x)
  get_dropped xs zero x h = let g = contains_get xs x h in (g.0, omega arith, g.1)
  get_dropped [] (suc n) x h = let lt = h.1 in absurd (omega arith)
  get_dropped (y ∷ xs) (suc n) x h = let g = get_dropped xs n x h in (suc g.0, let le = g.1 in omega arith, g.2)

  pub get_drop : (xs : List X) (n k : ℕ) (x : X) → n ≤ k → slice_get xs k ≡ Some x → Contains (drop n xs) x
  get_drop xs zero k x le e = get_contains xs k x e
  get_drop [] (suc n) k x le e = absurd cc
  get_drop (y ∷ xs) (suc n) zero x le e = absurd (omega arith)
  get_drop (y ∷ xs) (suc n) (suc k) x le e = get_drop xs n k x (omega arith) e

  pub get_set : (xs : List X) (i : ℕ) (x : X) → i < length xs → slice_get (set xs i x) i ≡ Some x
  get_set [] i x lt = absurd (omega arith)
  get_set (y ∷ xs) zero x lt = refl
  get_set (y ∷ xs) (suc i) x lt = get_set xs i x (omega arith)

  -- what a list holds where one element was written: that, or what was there
  pub get_before : (xs : List X) (i k : ℕ) (x y : X) → slice_get (set xs i x) k ≡ Some y → (slice_get xs k ≡ Some y) ⊎ ((k ≡ i) × (y ≡ x))
  get_before [] i k x y e = absurd cc
  get_before (z ∷ xs) zero zero x y e = inr (refl, cc)
  get_before (z ∷ xs) zero (suc k) x y e = inl e
  get_before (z ∷ xs) (suc i) zero x y e = inl e
  get_before (z ∷ xs) (suc i) (suc k) x y e = elim (get_before xs i k x y e) [ inl h ↦ inl h | inr h ↦ inr (ap suc h.0, h.1) ]

  pub get_still : (xs : List X) (i k : ℕ) (x y : X) → slice_get xs k ≡ Some y → (slice_get (set xs i x) k ≡ Some y) ⊎ (k ≡ i)
  get_still [] i k x y e = absurd cc
  get_still (z ∷ xs) zero zero x y e = inr refl
  get_still (z ∷ xs) zero (suc k) x y e = inl e
  get_still (z ∷ xs) (suc i) zero x y e = inl e
  get_still (z ∷ xs) (suc i) (suc k) x y e = elim (get_still xs i k x y e) [ inl h ↦ inl h | inr h ↦ inr (ap suc h) ]

  pub get_replicated : (n k : ℕ) (x y : X) → slice_get (replicate n x) k ≡ Some y → y ≡ x
  get_replicated zero k x y e = absurd cc
  get_replicated (suc n) zero x y e = cc
  get_replicated (suc n) (suc k) x y e = get_replicated n k x y e
