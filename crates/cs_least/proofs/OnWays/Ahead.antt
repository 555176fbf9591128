-- The order of costs and sources, and the top of a heap.
use Rattle.std.proofs.Common.{◌≡◌, ℕ, zero, suc, ◌+◌, ◌<◌, ◌≤◌, false, List, [], ◌∷◌, length, get_or, sym, ap, ◌∙◌, ⊎_elim, arith, Bool, true, not}
use Rattle.std.specs.BinaryHeap.{IsUpperBound, lt_by_cmp}
use Rattle.std.specs.declared.cmp.Reverse.{Reverse}
use Rattle.std.specs.declared.cmp.Ordering.{Ordering}
use Rattle.std.specs.declared.cmp.Ordering.TheVariants.{Less, Equal, Greater}
use Rattle.std.specs.Ordering.{nat_cmp, ordering_then, is_lt}
use Rattle.std.specs.Cmp.{nat_cmp_is}
use Rattle.std.proofs.lemmas.Bool.{cases_lt, false≢true}
use Rattle.cs_least.specs.declared.ways.candidate.Candidate.{Candidate}
use Rattle.cs_grammar.specs.Weights.{capped}
use Rattle.cs_least.specs.Ways.Candidates.{order}
use Rattle.cs_least.specs.Ways.Search.{IsAhead, Holds}

module _ (limit : ℕ) where
  pub ahead_itself : (c o : ℕ) → IsAhead limit c o c o
  ahead_itself c o = record { cost = omega arith; origin = λ h k. omega arith }

  pub ahead_trans : (c o d p e q : ℕ) → IsAhead limit c o d p → IsAhead limit d p e q → IsAhead limit c o e q
  ahead_trans c o d p e q a b = record {
    cost = omega (arith, a.cost, b.cost);
    origin = λ h k. omega (arith, a.origin (omega (arith, h, b.cost)) k, b.origin (omega (arith, h, a.cost)) (omega (arith, h, k, b.cost)));
  }

  -- what goes on by a step comes no earlier
  pub ahead_after : (c o x : ℕ) → c ≤ limit + 1 → IsAhead limit c o (capped limit (c + x)) o
  ahead_after c o x within = record { cost = omega arith; origin = λ h k. omega arith }

  -- and no later than what goes on by the same step, and came no earlier
  pub ahead_step : (c o d p x : ℕ) → IsAhead limit c o d p → IsAhead limit (capped limit (c + x)) o (capped limit (d + x)) p
  ahead_step c o d p x a = record {
    cost = omega (arith, a.cost);
    origin = λ h k. a.origin (omega (arith, h, k, a.cost)) (omega (arith, k));
  }

not_less : (a b : ℕ) (r : Ordering) → is_lt (ordering_then (nat_cmp a b) r) ≡ false → b ≤ a
not_less a b r e =
    ⊎_elim
    (λ lt. let is : Less ≡ nat_cmp a b = nat_cmp_is a b Less lt in absurd (false≢true (sym e ∙ sym (ap (λ k. is_lt (ordering_then k r)) is))))
    (λ le. le)
    (cases_lt a b)

same_first : (a b : ℕ) (r : Ordering) → a ≡ b → is_lt (ordering_then (nat_cmp a b) r) ≡ false → is_lt r ≡ false
same_first a b r same e =
    let is : Equal ≡ nat_cmp a b = nat_cmp_is a b Equal same in
    ap (λ k. is_lt (ordering_then k r)) is ∙ e

greatest_at : (x : Reverse Candidate) (heap : List (Reverse Candidate)) → IsUpperBound order x heap → (k : ℕ) (y : Reverse Candidate) → k < length heap → get_or heap k y ≡ y → lt_by_cmp order x y ≡ false
greatest_at x [] h k y lt e = absurd (omega arith)
greatest_at x (z ∷ heap) h zero y lt e = ap (λ w. lt_by_cmp order x w) (sym e) ∙ h.0
greatest_at x (z ∷ heap) h (suc k) y lt e = greatest_at x heap h.1 k y (omega arith) e

-- what isn't less in the heap's order comes no later
ahead_from : (limit : ℕ) (c d : Candidate) → lt_by_cmp order (record { 0 = c }) (record { 0 = d }) ≡ false → IsAhead limit c.cost c.origin d.cost d.origin
ahead_from limit c d e =
    let rest = ordering_then (nat_cmp d.origin c.origin) (nat_cmp d.node c.node) in
    let above = not_less d.cost c.cost rest e in
    record {
      cost = above;
      origin = λ k within. not_less d.origin c.origin (nat_cmp d.node c.node) (same_first d.cost c.cost rest (omega (arith, above, k)) e);
    }

not_more : (a b : ℕ) (r : Ordering) → is_lt (ordering_then (nat_cmp a b) r) ≡ true → a ≤ b
not_more a b r e =
    ⊎_elim
    (λ lt. let is : Greater ≡ nat_cmp a b = nat_cmp_is a b Greater lt in absurd (false≢true (ap (λ k. is_lt (ordering_then k r)) is ∙ e)))
    (λ le. le)
    (cases_lt b a)

same_more : (a b : ℕ) (r : Ordering) → a ≡ b → is_lt (ordering_then (nat_cmp a b) r) ≡ true → is_lt r ≡ true
same_more a b r same e =
    let is : Equal ≡ nat_cmp a b = nat_cmp_is a b Equal same in
    ap (λ k. is_lt (ordering_then k r)) is ∙ e

-- what is greater in the heap's order comes no later
pub ahead_from_less : (limit : ℕ) (c d : Candidate) (b : Bool) → lt_by_cmp order (record { 0 = c }) (record { 0 = d }) ≡ b → not b ≡ false → IsAhead limit d.cost d.origin c.cost c.origin
ahead_from_less limit c d false e h = absurd (false≢true (sym h))
ahead_from_less limit c d true e h =
    let rest = ordering_then (nat_cmp d.origin c.origin) (nat_cmp d.node c.node) in
    let above = not_more d.cost c.cost rest e in
    record {
      cost = above;
      origin = λ k within. not_more d.origin c.origin (nat_cmp d.node c.node) (same_more d.cost c.cost rest (omega (arith, above, k)) e);
    }

pub ahead_from_test : (limit : ℕ) (c d : Candidate) (b : Bool) → lt_by_cmp order (record { 0 = c }) (record { 0 = d }) ≡ b → not b ≡ true → IsAhead limit c.cost c.origin d.cost d.origin
ahead_from_test limit c d true e h = absurd (false≢true h)
ahead_from_test limit c d false e h = ahead_from limit c d e

-- what is on top comes no later than what the heap holds
pub ahead_from_greatest : (limit : ℕ) (c : Candidate) (heap : List (Reverse Candidate)) → IsUpperBound order (record { 0 = c }) heap → (d : Candidate) → Holds heap d → IsAhead limit c.cost c.origin d.cost d.origin
ahead_from_greatest limit c heap h d has =
    ahead_from limit c d (greatest_at (record { 0 = c }) heap h has.0 (record { 0 = d }) has.1 has.2)
