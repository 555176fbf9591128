-- Where definitions stand in their order.
use Rattle.std.proofs.Common.{◌≡◌, ◌≢◌, ℕ, zero, suc, ◌+◌, ◌<◌, List, [], ◌∷◌, length, take, drop, set, get_or, refl, sym, ap, ◌∙◌, subst, inl, inr, arith}
use Rattle.std.specs.Prelude.{Contains}
use Rattle.std.proofs.lemmas.Bool.{cases_lt}
use Rattle.std.proofs.lemmas.List.{get_or-set_same, get_or-set_other}
use Rattle.cs_pattern.specs.Text.Checked.{IsOrder}
use Rattle.cs_pattern.specs.Text.Needed.{place_of}
use Rattle.cs_pattern.specs.Operations.Definitions.{Definition}
use Rattle.cs_pattern.proofs.OnText.Pending.{split_at}

has_taken : (xs : List ℕ) (k n : ℕ) → k < n → n < length xs → Contains (take n xs) (get_or xs k 0)
has_taken [] k n lt less = absurd (omega arith)
has_taken (x ∷ xs) k zero lt less = absurd (omega arith)
has_taken (x ∷ xs) zero (suc n) lt less = (0, omega arith, refl)
has_taken (x ∷ xs) (suc k) (suc n) lt less = let h = has_taken xs k n (omega arith) (omega arith) in (suc h.0, (let l = h.1 in omega arith), h.2)

stands_in : (xs : List ℕ) (n : ℕ) → n < length xs → Contains xs (get_or xs n 0)
stands_in [] n lt = absurd (omega arith)
stands_in (x ∷ xs) zero lt = (0, omega arith, refl)
stands_in (x ∷ xs) (suc n) lt = let h = stands_in xs n (omega arith) in (suc h.0, (let l = h.1 in omega arith), h.2)

-- what stands in the order is a definition
pub stands_within : (ds : List Definition) (order : List ℕ) (n : ℕ) → IsOrder ds order → n < length order → get_or order n 0 < length ds
stands_within ds order n o lt = o.within (get_or order n 0) (stands_in order n lt)

pub place_set : (ds : List Definition) (order places : List ℕ) (n : ℕ) → IsOrder ds order → length places ≡ length ds → n < length order
    → ((k : ℕ) → k < n → place_of places (get_or order k 0) ≡ k) → (k : ℕ) → k < n + 1 → place_of (set places (get_or order n 0) n) (get_or order k 0) ≡ k
place_set ds order places n o e lt h k less =
    elim (cases_lt k n) [
      | inl before ↦
          let other : get_or order k 0 ≢ get_or order n 0 = λ same. o.once (take n order) (drop (suc n) order) (get_or order n 0) (split_at order n lt) (subst (Contains (take n order)) same (has_taken order k n before lt)) in
          get_or-set_other places (get_or order n 0) (get_or order k 0) n 0 other ∙ h k before
      | inr ge ↦
          let here : k ≡ n = omega arith in
          let within : get_or order n 0 < length places = omega (arith, e, stands_within ds order n o lt) in
          ap (λ m. get_or (set places (get_or order n 0) n) (get_or order m 0) 0) here ∙ get_or-set_same places (get_or order n 0) n 0 within ∙ sym here
    ]
