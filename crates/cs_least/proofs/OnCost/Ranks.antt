-- Sums of costs under a limit, and costs that are reached and not undercut.
use Rattle.std.proofs.Common.{◌≡◌, ℕ, ◌+◌, ◌≤◌, Bool, true, false, List, [], ◌∷◌, refl, ap, arith}
use Rattle.std.proofs.lemmas.Bool.Decides.{nat_tests}
use Rattle.std.specs.Prelude.{nat_le, if◌then◌else◌}
use Rattle.cs_least.specs.declared.cost.cost.Cost.{Cost}
use Rattle.cs_least.specs.declared.cost.cost.Cost.TheVariants.{Never, Large, Least}
use Rattle.cs_least.specs.Cost.Least.{IsCost}
use Rattle.cs_least.specs.Cost.Rank.{capped, rank, IsCapped, cost_of, plus, sum_from}

module _ (limit : ℕ) where
  rank_written : (n : ℕ) (b : Bool) → nat_le n limit ≡ b → rank limit (if b then Least n else Large) ≡ capped limit n
  rank_written n true e = grind (arith, nat_tests)
  rank_written n false e = grind (arith, nat_tests)

  pub rank-cost_of : (n : ℕ) → rank limit (cost_of limit n) ≡ capped limit n
  rank-cost_of n = rank_written n (nat_le n limit) refl

  IsCapped-written : (n : ℕ) (b : Bool) → nat_le n limit ≡ b → IsCapped limit (if b then Least n else Large)
  IsCapped-written n true e = grind (arith, nat_tests)
  IsCapped-written n false e = tt

  pub IsCapped-cost_of : (n : ℕ) → IsCapped limit (cost_of limit n)
  IsCapped-cost_of n = IsCapped-written n (nat_le n limit) refl

  pub rank_most : (c : Cost) → IsCapped limit c → rank limit c ≤ limit + 2
  rank_most Never h = omega arith
  rank_most Large h = omega arith
  rank_most (Least n) h = omega arith

  -- parts that cost at most these sizes cost at most their sum
  pub plus_at_most : (a b : Cost) (m n : ℕ) → rank limit a ≤ capped limit m → rank limit b ≤ capped limit n → rank limit (plus limit a b) ≤ capped limit (m + n)
  plus_at_most Never b m n ha hb = omega arith
  plus_at_most Large Never m n ha hb = omega arith
  plus_at_most Large Large m n ha hb = omega arith
  plus_at_most Large (Least k) m n ha hb = omega arith
  plus_at_most (Least j) Never m n ha hb = omega arith
  plus_at_most (Least j) Large m n ha hb = omega arith
  plus_at_most (Least j) (Least k) m n ha hb = omega (arith, rank-cost_of (j + k))

-- two costs with members of their kinds, and their sum
pub record Reached (limit : ℕ) (a b : Cost) : Type 0 where
  pub first : rank limit a ≤ limit + 1
  pub second : rank limit b ≤ limit + 1
  pub sum : capped limit (rank limit a + rank limit b) ≤ rank limit (plus limit a b)

module _ (limit : ℕ) where
  -- a sum with a member is of parts with members
  pub plus_reached : (a b : Cost) → IsCapped limit a → IsCapped limit b → rank limit (plus limit a b) ≤ limit + 1 → Reached limit a b
  plus_reached Never b ca cb h = absurd (omega arith)
  plus_reached Large Never ca cb h = absurd (omega arith)
  plus_reached Large Large ca cb h = record { first = omega arith; second = omega arith; sum = omega arith }
  plus_reached Large (Least k) ca cb h = record { first = omega arith; second = omega arith; sum = omega arith }
  plus_reached (Least j) Never ca cb h = absurd (omega arith)
  plus_reached (Least j) Large ca cb h = record { first = omega arith; second = omega arith; sum = omega arith }
  plus_reached (Least j) (Least k) ca cb h =
      record { first = omega arith; second = omega arith; sum = omega (arith, rank-cost_of limit (j + k)) }

  pub IsCapped-plus : (a b : Cost) → IsCapped limit a → IsCapped limit b → IsCapped limit (plus limit a b)
  IsCapped-plus Never b ca cb = tt
  IsCapped-plus Large Never ca cb = tt
  IsCapped-plus Large Large ca cb = tt
  IsCapped-plus Large (Least k) ca cb = tt
  IsCapped-plus (Least j) Never ca cb = tt
  IsCapped-plus (Least j) Large ca cb = tt
  IsCapped-plus (Least j) (Least k) ca cb = IsCapped-cost_of limit (j + k)

  -- a sum within the limit is the sum of the parts
  pub plus_written : (a b : Cost) → rank limit (plus limit a b) ≤ limit → rank limit (plus limit a b) ≡ rank limit a + rank limit b
  plus_written Never b h = absurd (omega arith)
  plus_written Large Never h = absurd (omega arith)
  plus_written Large Large h = absurd (omega arith)
  plus_written Large (Least k) h = absurd (omega arith)
  plus_written (Least j) Never h = absurd (omega arith)
  plus_written (Least j) Large h = absurd (omega arith)
  plus_written (Least j) (Least k) h = omega (arith, rank-cost_of limit (j + k))

  pub IsCapped-sum_from : {X : Type 0} (told : X → Cost) → ((x : X) → IsCapped limit (told x)) → (xs : List X) (sum : Cost) → IsCapped limit sum → IsCapped limit (sum_from limit told sum xs)
  IsCapped-sum_from told each [] sum h = h
  IsCapped-sum_from told each (x ∷ xs) sum h =
      IsCapped-sum_from told each xs (plus limit sum (told x)) (IsCapped-plus sum (told x) h (each x))

-- a cost that some member reaches and none is below is the cost of the kind
module _ {A : Type 0} (limit : ℕ) (Kind : A → Type 0) (measure : A → ℕ) where
  pub IsCost-from : (c : Cost) → IsCapped limit c → (rank limit c ≤ limit + 1 → (a : A) × Kind a × (capped limit (measure a) ≤ rank limit c)) → ((a : A) → Kind a → rank limit c ≤ capped limit (measure a)) → IsCost limit Kind measure c
  IsCost-from Never is_capped has low = λ a h. absurd (omega (arith, low a h))
  IsCost-from Large is_capped has low = let a = has (omega arith) in (a.0, a.1, λ b h. omega (arith, low b h))
  IsCost-from (Least n) is_capped has low =
      let a = has (omega arith) in
      (is_capped, record { reached = (a.0, a.1, omega (arith, a.2, low a.0 a.1)); least = λ b h. omega (arith, low b h) })

  -- and the other way round
  pub cost_low : (c : Cost) → IsCost limit Kind measure c → (a : A) → Kind a → rank limit c ≤ capped limit (measure a)
  cost_low Never h a k = absurd (h a k)
  cost_low Large h a k = omega (arith, h.2 a k)
  cost_low (Least n) h a k = omega (arith, h.0, h.1.least a k)

  pub cost_reached : (c : Cost) → IsCost limit Kind measure c → rank limit c ≤ limit + 1 → (a : A) × Kind a × (capped limit (measure a) ≤ rank limit c)
  cost_reached Never h small = absurd (omega arith)
  cost_reached Large h small = (h.0, h.1, omega arith)
  cost_reached (Least n) h small = (h.1.reached.0, h.1.reached.1, omega (arith, h.1.reached.2))

  pub cost_capped : (c : Cost) → IsCost limit Kind measure c → IsCapped limit c
  cost_capped Never h = tt
  cost_capped Large h = tt
  cost_capped (Least n) h = h.0

  -- within the limit the cost is a size, which some member has
  pub cost_least : (c : Cost) → IsCost limit Kind measure c → rank limit c ≤ limit → (a : A) × Kind a × (measure a ≡ rank limit c)
  cost_least Never h small = absurd (omega arith)
  cost_least Large h small = absurd (omega arith)
  cost_least (Least n) h small = h.1.reached

  -- a kind has one cost
  pub one_cost : (c d : Cost) → IsCost limit Kind measure c → IsCost limit Kind measure d → c ≡ d
  one_cost Never Never hc hd = refl
  one_cost Never Large hc hd = absurd (hc hd.0 hd.1)
  one_cost Never (Least n) hc hd = absurd (hc hd.1.reached.0 hd.1.reached.1)
  one_cost Large Never hc hd = absurd (hd hc.0 hc.1)
  one_cost Large Large hc hd = refl
  one_cost Large (Least n) hc hd = absurd (omega (arith, hd.0, hd.1.reached.2, hc.2 hd.1.reached.0 hd.1.reached.1))
  one_cost (Least m) Never hc hd = absurd (hd hc.1.reached.0 hc.1.reached.1)
  one_cost (Least m) Large hc hd = absurd (omega (arith, hc.0, hc.1.reached.2, hd.2 hc.1.reached.0 hc.1.reached.1))
  one_cost (Least m) (Least n) hc hd =
      let same : m ≡ n = omega (arith, hc.1.reached.2, hd.1.reached.2, hc.1.least hd.1.reached.0 hd.1.reached.1, hd.1.least hc.1.reached.0 hc.1.reached.1) in
      ap Least same

-- things of two kinds together cost the sum
module _ {A B : Type 0} (limit : ℕ) (First : A → Type 0) (Second : B → Type 0) (one : A → ℕ) (other : B → ℕ) where
  pub IsCost-plus : (a b : Cost) → IsCost limit First one a → IsCost limit Second other b → IsCost limit (λ (p : A × B). First p.0 × Second p.1) (λ (p : A × B). one p.0 + other p.1) (plus limit a b)
  IsCost-plus a b ha hb =
      let ca = cost_capped limit First one a ha in
      let cb = cost_capped limit Second other b hb in
      IsCost-from limit (λ (p : A × B). First p.0 × Second p.1) (λ (p : A × B). one p.0 + other p.1) (plus limit a b) (IsCapped-plus limit a b ca cb)
      (λ h.
      let parts = plus_reached limit a b ca cb h in
      let x = cost_reached limit First one a ha parts.first in
      let y = cost_reached limit Second other b hb parts.second in
      ((x.0, y.0), (x.1, y.1), omega (arith, parts.sum, x.2, y.2)))
      (λ p h. plus_at_most limit a b (one p.0) (other p.1) (cost_low limit First one a ha p.0 h.0) (cost_low limit Second other b hb p.1 h.1))

-- two kinds whose members answer each other cost the same: with sizes that are no larger under the limit, or no larger at all
module _ {A B : Type 0} (limit : ℕ) (First : A → Type 0) (Second : B → Type 0) (one : A → ℕ) (other : B → ℕ) where
  pub IsCost-alike : (c : Cost) → ((a : A) → First a → (b : B) × Second b × (capped limit (other b) ≤ capped limit (one a))) → ((b : B) → Second b → (a : A) × First a × (capped limit (one a) ≤ capped limit (other b))) → IsCost limit First one c → IsCost limit Second other c
  IsCost-alike c to from h =
      IsCost-from limit Second other c (cost_capped limit First one c h)
      (λ small. let a = cost_reached limit First one c h small in let b = to a.0 a.1 in (b.0, b.1, omega (arith, a.2, b.2)))
      (λ b k. let a = from b k in omega (arith, cost_low limit First one c h a.0 a.1, a.2))

  pub IsCost-same : (c : Cost) → ((a : A) → First a → (b : B) × Second b × (other b ≤ one a)) → ((b : B) → Second b → (a : A) × First a × (one a ≤ other b)) → IsCost limit First one c → IsCost limit Second other c
  IsCost-same c to from h =
      IsCost-alike c
      (λ a k. let b = to a k in (b.0, b.1, omega (arith, b.2)))
      (λ b k. let a = from b k in (a.0, a.1, omega (arith, a.2)))
      h

-- a node above the things of a kind costs one more
module _ {A : Type 0} (limit : ℕ) (Kind : A → Type 0) (measure : A → ℕ) where
  pub IsCost-more : (b : Cost) → IsCost limit Kind measure b → IsCost limit Kind (λ a. 1 + measure a) (plus limit (cost_of limit 1) b)
  IsCost-more b h =
      let cb = cost_capped limit Kind measure b h in
      IsCost-from limit Kind (λ a. 1 + measure a) (plus limit (cost_of limit 1) b) (IsCapped-plus limit (cost_of limit 1) b (IsCapped-cost_of limit 1) cb)
      (λ small.
      let parts = plus_reached limit (cost_of limit 1) b (IsCapped-cost_of limit 1) cb small in
      let a = cost_reached limit Kind measure b h parts.second in
      (a.0, a.1, omega (arith, parts.sum, a.2, rank-cost_of limit 1)))
      (λ a k. plus_at_most limit (cost_of limit 1) b 1 (measure a) (omega (arith, rank-cost_of limit 1)) (cost_low limit Kind measure b h a k))
