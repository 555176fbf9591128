-- Lists of indexes, from which one is taken.
use Rattle.std.proofs.Common.{◌≡◌, ◌⊎◌, ℕ, zero, suc, ◌<◌, ◌≤◌, List, [], ◌∷◌, length, sym, ◌∙◌, inl, inr, arith}
use Rattle.std.proofs.lemmas.Bool.{cases_eq, cases_lt}

abbrev pub Among : List ℕ → ℕ → Type 0
Among [] j = ⊥
Among (x ∷ xs) j = (x ≡ j) ⊎ Among xs j

pub among_or_not : (xs : List ℕ) (j : ℕ) → Among xs j ⊎ (Among xs j → ⊥)
among_or_not [] j = inr (λ h. h)
among_or_not (x ∷ xs) j = by_first (cases_eq x j) (among_or_not xs j)
  where
    by_first : (x ≡ j) ⊎ (x ≡ j → ⊥) → Among xs j ⊎ (Among xs j → ⊥) → Among (x ∷ xs) j ⊎ (Among (x ∷ xs) j → ⊥)
    by_first (inl e) o = inl (inl e)
    by_first (inr differs) (inl h) = inl (inr h)
    by_first (inr differs) (inr none) = inr (λ h. elim h [ inl e ↦ differs e | inr there ↦ none there ])

-- the list without one of its members
pub record Without (xs : List ℕ) (k : ℕ) : Type 0 where
  pub rest : List ℕ
  pub shorter : length rest < length xs
  pub others : (j : ℕ) → Among xs j → (k ≡ j → ⊥) → Among rest j

without_first : (x k : ℕ) (xs : List ℕ) → x ≡ k → Without (x ∷ xs) k
without_first x k xs e = record { rest = xs; shorter = omega arith; others = other }
  where
    other : (j : ℕ) → Among (x ∷ xs) j → (k ≡ j → ⊥) → Among xs j
    other j (inl f) differs = absurd (differs (sym e ∙ f))
    other j (inr h) differs = h

without_later : (x k : ℕ) (xs : List ℕ) → Without xs k → Without (x ∷ xs) k
without_later x k xs w = record { rest = x ∷ w.rest; shorter = (let s = w.shorter in omega arith); others = other }
  where
    other : (j : ℕ) → Among (x ∷ xs) j → (k ≡ j → ⊥) → Among (x ∷ w.rest) j
    other j (inl f) differs = inl f
    other j (inr g) differs = inr (w.others j g differs)

pub without : (xs : List ℕ) (k : ℕ) → Among xs k → Without xs k
without [] k h = absurd h
without (x ∷ xs) k (inl e) = without_first x k xs e
without (x ∷ xs) k (inr h) = without_later x k xs (without xs k h)

abbrev pub below : ℕ → List ℕ
below zero = []
below (suc n) = n ∷ below n

pub among_below : (n j : ℕ) → j < n → Among (below n) j
among_below zero j lt = absurd (omega arith)
among_below (suc n) j lt = elim (cases_lt j n) [ inl less ↦ inr (among_below n j less) | inr ge ↦ inl (omega arith) ]

pub none_left : (xs : List ℕ) (j : ℕ) → length xs ≤ 0 → Among xs j → ⊥
none_left [] j le h = h
none_left (x ∷ xs) j le h = absurd (omega arith)
