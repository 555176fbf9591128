-- Lists along which a number ascends, and elements of lists.
use Rattle.std.proofs.Common.{◌≡◌, ℕ, zero, suc, ◌<◌, ◌⊎◌, arith, List, [], ◌∷◌, ◌++◌, length, Some, sym, ap, subst, inl, inr, refl, ⊎_elim, append-nil, take, drop}
use Rattle.std.proofs.lemmas.List.{take_all, drop_all}
use Rattle.std.proofs.lemmas.Option.{get_or_from_slice_get, slice_get_within}
use Rattle.std.specs.Prelude.{All, slice_get}
use Rattle.cs_scanner.specs.Lexeme.Bytes.{Rises}

module _ {A : Type 0} where
  -- an element of a list with one more is one of the list's, or the new one at its end
  pub at_pushed : (xs : List A) (y z : A) (i : ℕ) → slice_get (xs ++ y ∷ []) i ≡ Some z → (slice_get xs i ≡ Some z) ⊎ ((i ≡ length xs) × (z ≡ y))
  at_pushed [] y z zero at = inr (refl, cc)
  at_pushed [] y z (suc i) at = absurd (cc)
  at_pushed (x ∷ xs) y z zero at = inl at
  at_pushed (x ∷ xs) y z (suc i) at = elim (at_pushed xs y z i at) [ inl here ↦ inl here | inr new ↦ inr (ap suc new.0, new.1) ]

  pub still_at : (xs : List A) (y z : A) (i : ℕ) → slice_get xs i ≡ Some z → slice_get (xs ++ y ∷ []) i ≡ Some z
  still_at [] y z i at = absurd (cc)
  still_at (x ∷ xs) y z zero at = at
  still_at (x ∷ xs) y z (suc i) at = still_at xs y z i at

  pub at_end : (xs : List A) (y : A) → slice_get (xs ++ y ∷ []) (length xs) ≡ Some y
  at_end [] y = refl
  at_end (x ∷ xs) y = at_end xs y

  -- some element stands at a place within
  pub has_at : (xs : List A) (i : ℕ) → i < length xs → (x : A) × (slice_get xs i ≡ Some x)
  has_at [] i less = absurd (omega arith)
  has_at (x ∷ xs) zero less = (x, refl)
  has_at (x ∷ xs) (suc i) less = has_at xs i (omega arith)

  pub all_at : (P : A → Type 0) (xs : List A) (i : ℕ) (x : A) → All P xs → slice_get xs i ≡ Some x → P x
  all_at P xs i x all at = subst P (get_or_from_slice_get xs i x x at) (all i x (slice_get_within xs i x at))

  -- the number ascends still where the new element's is above all
  pub rises_pushed : (f : A → ℕ) (xs : List A) (y : A) → Rises f xs → ((i : ℕ) (x : A) → slice_get xs i ≡ Some x → f x < f y) → Rises f (xs ++ y ∷ [])
  rises_pushed f xs y rises low i j x z less at other = ⊎_elim
      (λ (here : slice_get xs j ≡ Some z).
      ⊎_elim
      (λ (first : slice_get xs i ≡ Some x). rises i j x z less first here)
      (λ (new : (i ≡ length xs) × (x ≡ y)). absurd (omega (arith, new.0, slice_get_within xs j z here)))
      (at_pushed xs y x i at))
      (λ (new : (j ≡ length xs) × (z ≡ y)).
      ⊎_elim
      (λ (first : slice_get xs i ≡ Some x). let P : A → Type 0 = λ w. f x < f w in subst P (sym new.1) (low i x first))
      (λ (same : (i ≡ length xs) × (x ≡ y)). absurd (omega (arith, new.0, same.0)))
      (at_pushed xs y x i at))
      (at_pushed xs y z j other)

  -- what was written through a borrowed slice of as many
  pub written : (items new : List A) (count : ℕ) → length items ≡ count → length new ≡ count → take count (new ++ drop (length new) items) ≡ new
  written items new count all same =
      let e : drop (length new) items ≡ [] = drop_all (length new) items (omega arith) in
      let P : List A → Type 0 = λ t. take count (new ++ t) ≡ new in
      subst P (sym e) (let Q : List A → Type 0 = λ t. take count t ≡ new in subst Q (sym (append-nil new)) (take_all count new (omega arith)))
