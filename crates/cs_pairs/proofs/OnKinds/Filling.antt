-- A row of costs, one entry after another.
use Rattle.std.proofs.Common.{◌≡◌, ℕ, zero, suc, ◌+◌, ◌-◌, ◌<◌, ◌≤◌, List, [], ◌∷◌, ◌++◌, length, get_or, refl, ap, sym, ◌∙◌, subst, ⊎_elim, arith, length-append}
use Rattle.std.specs.Prelude.{All}
use Rattle.std.proofs.lemmas.Bool.{cases_eq, cases_lt}
use Rattle.std.proofs.lemmas.List.{get_or_default}
use Rattle.cs_grammar.specs.Grammar.{IsNumberOf}
use Rattle.cs_least.specs.declared.cost.cost.Cost.{Cost}
use Rattle.cs_least.specs.declared.cost.cost.Cost.TheVariants.{Never}
use Rattle.cs_least.specs.Cost.Least.{IsCost}
use Rattle.cs_least.specs.Cost.Rank.{capped, rank, IsCapped, entry}
use Rattle.cs_least.specs.Cost.Holds.{Holds}
use Rattle.cs_least.proofs.OnCost.Ranks.{cost_capped, cost_reached}
use Rattle.cs_grammar.proofs.Tables.{entry_or-at, entry_or_past}
use Rattle.cs_pairs.specs.Kinds.Filled.{IsFilled}

entry_before : (row : List Cost) (c : Cost) (n : ℕ) → n ≤ length row → entry (row ++ c ∷ []) n ≡ entry row n
entry_before row c zero h = refl
entry_before [] c (suc n) h = absurd (omega arith)
entry_before (x ∷ row) c (suc zero) h = refl
entry_before (x ∷ row) c (suc (suc n)) h = entry_before row c (suc n) (omega arith)

entry_last : (row : List Cost) (c : Cost) → entry (row ++ c ∷ []) (suc (length row)) ≡ c
entry_last [] c = refl
entry_last (x ∷ row) c = entry_last row c

-- the cost of a number stands at the place before it
pub entry_read : (row : List Cost) (n : ℕ) (d : Cost) → IsNumberOf (length row) n → entry row n ≡ get_or row (n - 1) d
entry_read row n d h = entry_or-at Never row n h.0 ∙ get_or_default row (n - 1) Never d (omega (arith, h))

pub entry_next : (row : List Cost) (i : ℕ) (d : Cost) → i < length row → entry row (i + 1) ≡ get_or row i d
entry_next row i d h = let e : i + 1 - 1 ≡ i = omega arith in entry_read row (i + 1) d (omega arith, omega (arith, h)) ∙ ap (λ k. get_or row k d) e

module _ {A : Type 0} (limit : ℕ) (Kind : ℕ → A → Type 0) (measure : A → ℕ) where
  pub filled_none : IsFilled limit Kind measure 0 []
  filled_none = record { many = refl; exact = λ n h. absurd (omega (arith, h)) }

  pub filled_more : (count : ℕ) (row : List Cost) (c : Cost) → IsFilled limit Kind measure count row → IsCost limit (Kind (count + 1)) measure c → IsFilled limit Kind measure (count + 1) (row ++ c ∷ [])
  filled_more count row c so_far here = record {
    many = length-append row (c ∷ []) ∙ ap (λ n. n + 1) so_far.many;
    exact = λ n h.
        ⊎_elim
        (λ same.
        let place : suc (length row) ≡ n = omega (arith, so_far.many, same) in
        let is : c ≡ entry (row ++ c ∷ []) n = sym (entry_last row c) ∙ ap (entry (row ++ c ∷ [])) place in
        subst (IsCost limit (Kind n) measure) is (subst (λ m. IsCost limit (Kind m) measure c) (sym same) here))
        (λ other.
        let earlier : IsNumberOf count n = (h.0, omega (arith, h.1, other)) in
        subst (IsCost limit (Kind n) measure) (sym (entry_before row c n (omega (arith, earlier.1, so_far.many)))) (so_far.exact n earlier))
        (cases_eq n (count + 1));
  }

  -- no size above the limit is written out in it
  pub IsCapped-filled : (count : ℕ) (row : List Cost) → IsFilled limit Kind measure count row → All (IsCapped limit) row
  IsCapped-filled count row filled = λ k d within.
      subst (IsCapped limit) (entry_next row k d within)
      (cost_capped limit (Kind (k + 1)) measure (entry row (k + 1)) (filled.exact (k + 1) (omega arith, omega (arith, within, filled.many))))

  -- and each cost in it is one of a member
  pub Holds-filled : (count : ℕ) (row : List Cost) → IsFilled limit Kind measure count row → Holds limit Kind measure row
  Holds-filled count row filled = record {
    each = IsCapped-filled count row filled;
    reached = λ n h. reached n h;
  }
    where
      past : (n : ℕ) → (IsNumberOf count n → ⊥) → rank limit (entry row n) ≡ limit + 2
      past n none = ap (rank limit) (entry_or_past Never row n (λ w. none (w.0, omega (arith, w.1, filled.many))))

      reached : (n : ℕ) → rank limit (entry row n) ≤ limit + 1 → (a : A) × Kind n a × (capped limit (measure a) ≤ rank limit (entry row n))
      reached n h =
          ⊎_elim
          (λ within.
          ⊎_elim
          (λ above. cost_reached limit (Kind n) measure (entry row n) (filled.exact n (above, omega (arith, within))) h)
          (λ none. absurd (omega (arith, h, past n (λ w. omega (arith, w.0, none)))))
          (cases_lt 0 n))
          (λ beyond. absurd (omega (arith, h, past n (λ w. omega (arith, w.1, beyond)))))
          (cases_lt n (count + 1))

  -- the loop is at its end
  pub filled_all : (i count : ℕ) (end : ℕ) (row : List Cost) → IsFilled limit Kind measure i row → end ≤ i → end ≡ count → i ≤ end → IsFilled limit Kind measure count row
  filled_all i count end row so_far all is_end within =
      let e : i ≡ count = omega (arith, all, is_end, within) in
      subst (λ n. IsFilled limit Kind measure n row) e so_far
