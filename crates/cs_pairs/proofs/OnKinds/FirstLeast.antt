-- The least of things by number, and among the least the one of the lowest number.
use Rattle.std.proofs.Common.{◌≡◌, ℕ, zero, suc, ◌+◌, ◌<◌, ◌≤◌, ◌⊎◌, subst, ⊎_elim, inl, inr, arith, below_more}
use Rattle.std.proofs.lemmas.Bool.{cases_lt}

module _ {A : ℕ → Type 0} (Good : (i : ℕ) → A i → Type 0) (measure : (i : ℕ) → A i → ℕ) (n : ℕ) where
  -- each thing of the number is larger than n, or there is a good one, which is a least one
  abbrev pub IsSettledAt : ℕ → Type 0
  IsSettledAt i = ((a : A i) → n < measure i a) ⊎ ((a : A i) × Good i a × ((b : A i) → measure i a ≤ measure i b))

  -- a good least thing of those with a number below count, and of these one of the lowest number
  pub record FirstLeast (count : ℕ) : Type 0 where
    pub number : ℕ
    pub thing : A number
    pub good : Good number thing
    pub within : number < count
    pub small : measure number thing ≤ n
    pub least : (j : ℕ) → j < count → (b : A j) → measure number thing ≤ measure j b
    pub lowest : (j : ℕ) → j < count → (b : A j) → measure j b ≡ measure number thing → number ≤ j

  abbrev pub AreLarge : ℕ → Type 0
  AreLarge count = (j : ℕ) → j < count → (b : A j) → n < measure j b

  module _ (i : ℕ) where
    kept : (best : FirstLeast i) → ((b : A i) → measure best.number best.thing ≤ measure i b) → FirstLeast (i + 1)
    kept best no_less = record {
      number = best.number;
      thing = best.thing;
      good = best.good;
      within = omega (arith, best.within);
      small = best.small;
      least = λ j within. below_more (λ k. (b : A k) → measure best.number best.thing ≤ measure k b) i best.least no_less j within;
      lowest = λ j within.
          below_more (λ k. (b : A k) → measure k b ≡ measure best.number best.thing → best.number ≤ k) i best.lowest
          (λ b e. omega (arith, best.within)) j within;
    }

    taken : (a : A i) → Good i a → measure i a ≤ n → ((b : A i) → measure i a ≤ measure i b) → ((j : ℕ) → j < i → (b : A j) → measure i a < measure j b) → FirstLeast (i + 1)
    taken a good small least dearer = record {
      number = i;
      thing = a;
      good = good;
      within = omega arith;
      small = small;
      least = λ j within. below_more (λ k. (b : A k) → measure i a ≤ measure k b) i (λ k lt b. omega (arith, dearer k lt b)) least j within;
      lowest = λ j within.
          below_more (λ k. (b : A k) → measure k b ≡ measure i a → i ≤ k) i
          (λ k lt b e. absurd (omega (arith, dearer k lt b, e)))
          (λ b e. omega arith) j within;
    }

    step : IsSettledAt i → AreLarge i ⊎ FirstLeast i → AreLarge (i + 1) ⊎ FirstLeast (i + 1)
    step here so_far =
        ⊎_elim
        (λ large. ⊎_elim
        (λ none. inl (λ j within. below_more (λ k. (b : A k) → n < measure k b) i large none j within))
        (λ a. ⊎_elim
        (λ above. inl (λ j within. below_more (λ k. (b : A k) → n < measure k b) i large (λ b. omega (arith, above, a.2 b)) j within))
        (λ small. inr (taken a.0 a.1 (omega (arith, small)) a.2 (λ j lt b. omega (arith, small, large j lt b))))
        (cases_lt n (measure i a.0)))
        here)
        (λ best. ⊎_elim
        (λ none. inr (kept best (λ b. omega (arith, best.small, none b))))
        (λ a. ⊎_elim
        (λ less. inr (taken a.0 a.1 (omega (arith, less, best.small)) a.2 (λ j lt b. omega (arith, less, best.least j lt b))))
        (λ no_less. inr (kept best (λ b. omega (arith, no_less, a.2 b))))
        (cases_lt (measure i a.0) (measure best.number best.thing)))
        here)
        so_far

  pub first_least : ((i : ℕ) → IsSettledAt i) → (count : ℕ) → AreLarge count ⊎ FirstLeast count
  first_least each zero = inl (λ j within b. absurd (omega (arith, within)))
  first_least each (suc count) =
      let e : count + 1 ≡ suc count = omega arith in
      subst (λ c. AreLarge c ⊎ FirstLeast c) e (step count (each count) (first_least each count))
