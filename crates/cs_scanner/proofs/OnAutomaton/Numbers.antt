-- Numbers below a limit, each another one, are no more than the limit.
use Rattle.std.proofs.Common.{◌≡◌, ℕ, suc, ◌<◌, ◌≤◌, true, false, List, [], ◌∷◌, inl, inr, Some, refl, sym, ap, arith, length, eqb}
use Rattle.std.specs.Prelude.{slice_get}
use Rattle.std.specs.List.{IsDistinct, list_any, AllByRecursion}
use Rattle.std.proofs.lemmas.Bool.{false≢true, or_cases, eqb-true, ne_eqb}
use Rattle.std.proofs.lemmas.Map.Steps.{length-le_from_distinct_below}

all_other : (x : ℕ) (xs : List ℕ) → ((k : ℕ) → slice_get xs k ≡ Some x → ⊥) → AllByRecursion (λ y. eqb x y ≡ false) xs
all_other x [] h = tt
all_other x (y ∷ xs) h = (ne_eqb x y (λ e. h 0 (ap Some (sym e))), all_other x xs (λ k e. h (suc k) e))

distinct : (xs : List ℕ) → ((j k x : ℕ) → slice_get xs j ≡ Some x → slice_get xs k ≡ Some x → j ≡ k) → IsDistinct eqb xs
unfolding IsDistinct
distinct [] h = tt
distinct (x ∷ xs) h = (all_other x xs (λ k e. let same = h 0 (suc k) x refl e in omega (arith, same)), distinct xs (λ j k y d e. let same = h (suc j) (suc k) y d e in omega (arith, same)))

any_below : (xs : List ℕ) (n : ℕ) → ((k x : ℕ) → slice_get xs k ≡ Some x → x < n) → (q : ℕ) → list_any (eqb q) xs ≡ true → q < n
any_below [] n h q e = absurd (false≢true e)
any_below (x ∷ xs) n h q e =
    elim (or_cases (eqb q x) (list_any (eqb q) xs) e) [
      | inl s ↦ let same = eqb-true q x s in let lt = h 0 x refl in omega (arith, same, lt)
      | inr t ↦ any_below xs n (λ k y f. h (suc k) y f) q t
    ]

pub few_numbers : (xs : List ℕ) (n : ℕ) → ((j k x : ℕ) → slice_get xs j ≡ Some x → slice_get xs k ≡ Some x → j ≡ k) → ((k x : ℕ) → slice_get xs k ≡ Some x → x < n) → length xs ≤ n
few_numbers xs n apart below = length-le_from_distinct_below xs n (distinct xs apart) (any_below xs n below)
