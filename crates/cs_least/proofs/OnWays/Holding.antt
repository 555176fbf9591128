-- What a list holds, and what is left of a heap.
use Rattle.std.proofs.Common.{◌≡◌, ◌⊎◌, zero, suc, List, [], ◌∷◌, refl, ap, inl, inr, arith}
use Rattle.std.specs.Prelude.{Contains}
use Rattle.std.specs.List.Sorted.{IsPermutation}
use Rattle.std.specs.declared.cmp.Reverse.{Reverse}
use Rattle.std.proofs.lemmas.List.Elements.{Contains-append_right, Contains-append_cases}
use Rattle.std.proofs.lemmas.List.Sorted.{Contains-permutation, IsPermutation-sym}
use Rattle.cs_least.specs.declared.ways.candidate.Candidate.{Candidate}
use Rattle.cs_least.specs.Ways.Search.{Holds}

module _ {X : Type 0} where
  pub contained_alone : (x y : X) → Contains (x ∷ []) y → x ≡ y
  contained_alone x y (zero, lt, e) = e
  contained_alone x y (suc k, lt, e) = absurd (omega arith)

  pub contains_none : (x : X) → Contains [] x → ⊥
  contains_none x h = let lt = h.1 in absurd (omega arith)

  pub contains_first : (x : X) (xs : List X) → Contains (x ∷ xs) x
  contains_first x xs = (0, omega arith, refl)

  pub contains_later : (x y : X) (xs : List X) → Contains xs y → Contains (x ∷ xs) y
  contains_later x y xs h = Contains-append_right (x ∷ []) xs y h

  pub contains_cases : (x y : X) (xs : List X) → Contains (x ∷ xs) y → (x ≡ y) ⊎ Contains xs y
  contains_cases x y xs h = elim (Contains-append_cases (x ∷ []) xs y h) [ inl first ↦ inl (contained_alone x y first) | inr later ↦ inr later ]

pub inside : (c d : Candidate) → (let a : Reverse Candidate = record { 0 = c } in let b : Reverse Candidate = record { 0 = d } in a ≡ b) → c ≡ d
inside c d e = ap (λ (r : Reverse Candidate). r.0) e

-- what is left of a heap when c has left it
pub record IsRest (heap : List (Reverse Candidate)) (c : Candidate) (rest : List (Reverse Candidate)) : Type 0 where
  pub taken : Holds heap c
  pub kept : (d : Candidate) → Holds rest d → Holds heap d
  pub only : (d : Candidate) → Holds heap d → (c ≡ d) ⊎ Holds rest d

pub rest_popped : (heap : List (Reverse Candidate)) (c : Candidate) (rest : List (Reverse Candidate)) → IsPermutation heap (record { 0 = c } ∷ rest) → IsRest heap c rest
rest_popped heap c rest p =
    let top : Reverse Candidate = record { 0 = c } in
    let back = IsPermutation-sym heap (top ∷ rest) p in
    record {
      taken = Contains-permutation (top ∷ rest) heap top back (contains_first top rest);
      kept = λ d h. Contains-permutation (top ∷ rest) heap (record { 0 = d }) back (contains_later top (record { 0 = d }) rest h);
      only = λ d h. elim (contains_cases top (record { 0 = d }) rest (Contains-permutation heap (top ∷ rest) (record { 0 = d }) p h)) [
        | inl here ↦ inl (inside c d here)
        | inr there ↦ inr there
      ];
    }
