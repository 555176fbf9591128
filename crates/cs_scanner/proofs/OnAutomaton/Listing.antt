-- Ascending lists of all numbers of a kind.
use Rattle.std.proofs.Common.{◌≡◌, ℕ, zero, suc, ◌+◌, ◌<◌, ◌≤◌, ◌⊎◌, inl, inr, List, [], ◌∷◌, ◌++◌, Contains, sym, subst, arith, length, length-append, get_or}
use Rattle.std.specs.List.Sorted.{IsStrictlyIncreasing}
use Rattle.std.proofs.lemmas.Bool.{cases_lt}
use Rattle.std.proofs.lemmas.List.{get_or_append_left, get_or_push}
use Rattle.std.proofs.lemmas.List.Elements.{Contains-append_left, Contains-get_or, Contains-push, Contains-push_cases}
use Rattle.cs_scanner.specs.Automaton.Listed.{ListsAll}

pub lists_none : (P : ℕ → Type 0) → ((n : ℕ) → P n → ⊥) → ListsAll P []
lists_none P none = record { ascend = λ k less. absurd (omega (arith, less)); only = λ n c. absurd (omega (arith, c.1)); all = λ n p. absurd (none n p) }

pub lists_same : (P Q : ℕ → Type 0) (xs : List ℕ) → ((n : ℕ) → P n → Q n) → ((n : ℕ) → Q n → P n) → ListsAll P xs → ListsAll Q xs
lists_same P Q xs forth back are = record { ascend = are.ascend; only = λ n c. forth n (are.only n c); all = λ n q. are.all n (back n q) }

ascend_push : (xs : List ℕ) (y : ℕ) → IsStrictlyIncreasing xs → ((n : ℕ) → Contains xs n → n < y) → IsStrictlyIncreasing (xs ++ y ∷ [])
ascend_push xs y up above k less = more (cases_lt (k + 1) (length xs))
  where
    within : k + 1 < length xs + 1
    within = omega (arith, less, length-append xs (y ∷ []))

    more : (k + 1 < length xs) ⊎ (length xs ≤ k + 1) → get_or (xs ++ y ∷ []) k 0 < get_or (xs ++ y ∷ []) (k + 1) 0
    more (inl inside) = omega (arith, up k inside, get_or_append_left xs (y ∷ []) 0 k (omega (arith, inside)), get_or_append_left xs (y ∷ []) 0 (k + 1) inside)
    more (inr last) =
        let here : k + 1 ≡ length xs = omega (arith, last, within) in
        omega (arith, above (get_or xs k 0) (Contains-get_or xs k 0 (omega (arith, here))), get_or_append_left xs (y ∷ []) 0 k (omega (arith, here)), get_or_push xs y 0 (k + 1) (sym here))

pub lists_push : (P Q : ℕ → Type 0) (xs : List ℕ) (y : ℕ) → ((n : ℕ) → P n → n < y) → ((n : ℕ) → P n → Q n) → Q y → ((n : ℕ) → Q n → P n ⊎ (n ≡ y)) → ListsAll P xs → ListsAll Q (xs ++ y ∷ [])
lists_push P Q xs y above forth also back are = record {
  ascend = ascend_push xs y are.ascend (λ n c. above n (are.only n c));
  only = λ n c. elim (Contains-push_cases xs y n c) [ inl old ↦ forth n (are.only n old) | inr new ↦ subst Q new also ];
  all = λ n q. elim (back n q) [ inl p ↦ Contains-append_left xs (y ∷ []) n (are.all n p) | inr same ↦ subst (Contains (xs ++ y ∷ [])) (sym same) (Contains-push xs y) ];
}

-- of two places the later one has the higher number
pub ascend_far : (xs : List ℕ) → IsStrictlyIncreasing xs → (i j : ℕ) → i < j → j < length xs → get_or xs i 0 < get_or xs j 0
ascend_far xs up i zero before within = absurd (omega (arith, before))
ascend_far xs up i (suc j) before within =
    let next : j + 1 ≡ suc j = omega arith in
    let last : get_or xs j 0 < get_or xs (suc j) 0 = subst (λ (n : ℕ). get_or xs j 0 < get_or xs n 0) next (up j (omega (arith, within))) in
    elim (cases_lt i j) [
      | inl less ↦ omega (arith, last, ascend_far xs up i j less (omega (arith, within)))
      | inr most ↦ let same : i ≡ j = omega (arith, most, before) in subst (λ (n : ℕ). get_or xs n 0 < get_or xs (suc j) 0) (sym same) last
    ]

pub ascend_most : (xs : List ℕ) → IsStrictlyIncreasing xs → (i j : ℕ) → i ≤ j → j < length xs → get_or xs i 0 ≤ get_or xs j 0
ascend_most xs up i j most within =
    elim (cases_lt i j) [
      | inl less ↦ omega (arith, ascend_far xs up i j less within)
      | inr back ↦ let same : i ≡ j = omega (arith, most, back) in subst (λ (n : ℕ). get_or xs i 0 ≤ get_or xs n 0) same (omega arith)
    ]
