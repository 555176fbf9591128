-- Tables of what is told of nodes.
use Rattle.std.proofs.Common.{◌≡◌, ℕ, zero, suc, ◌+◌, ◌-◌, ◌<◌, ◌≤◌, Bool, true, false, List, [], ◌∷◌, length, get_or, refl, sym, ap, ◌∙◌, arith}
use Rattle.std.specs.Prelude.{nat_le, if◌then◌else◌}
use Rattle.std.proofs.Math.ListN.{set}
use Rattle.std.proofs.lemmas.Bool.Decides.{nat_tests}
use Rattle.cs_grammar.proofs.Tables.{entry_or-at}
use Rattle.cs_least.specs.declared.ways.step.Step.{Step}
use Rattle.cs_least.specs.declared.ways.candidate.Candidate.{Candidate}
use Rattle.cs_least.specs.declared.ways.reach.Reach.{Reach}
use Rattle.cs_least.specs.declared.ways.reach.Reach.TheVariants.{Never, Large, Least}
use Rattle.cs_least.specs.Ways.Ways.{IsNode, reach_at}
use Rattle.cs_least.specs.Ways.Candidates.{reach_of}
use Rattle.cs_least.specs.Ways.Rows.{leaving}
use Rattle.cs_least.specs.Ways.Search.{reach_cost, reach_origin, IsCappedReach, steps_from, unsettled_steps}

module _ (limit : ℕ) where
  cost_written : (c o : ℕ) (b : Bool) → nat_le c limit ≡ b → c ≤ limit + 1 → reach_cost limit (if b then Least c o else Large) ≡ c
  cost_written c o true e h = refl
  cost_written c o false e h = grind (arith, nat_tests)

  origin_written : (c o : ℕ) (b : Bool) → nat_le c limit ≡ b → c ≤ limit → reach_origin (if b then Least c o else Large) ≡ o
  origin_written c o true e h = refl
  origin_written c o false e h = grind (arith, nat_tests)

  capped_written : (c o : ℕ) (b : Bool) → nat_le c limit ≡ b → IsCappedReach limit (if b then Least c o else Large)
  capped_written c o true e = grind (arith, nat_tests)
  capped_written c o false e = tt

  module _ (c : Candidate) where
    pub cost-reach_of : c.cost ≤ limit + 1 → reach_cost limit (reach_of limit c) ≡ c.cost
    cost-reach_of h = cost_written c.cost c.origin (nat_le c.cost limit) refl h

    pub origin-reach_of : c.cost ≤ limit → reach_origin (reach_of limit c) ≡ c.origin
    origin-reach_of h = origin_written c.cost c.origin (nat_le c.cost limit) refl h

    pub capped-reach_of : IsCappedReach limit (reach_of limit c)
    capped-reach_of = capped_written c.cost c.origin (nat_le c.cost limit) refl

  -- a node of which something is told is settled
  pub settled_from : (r : Reach) → IsCappedReach limit r → (r ≡ Never → ⊥) → reach_cost limit r ≤ limit + 1
  settled_from Never h told = absurd (told refl)
  settled_from Large h told = omega arith
  settled_from (Least c o) h told = omega arith

-- the steps of a node that is settled now leave those that aren't
from_set : (steps : List Step) (n k : ℕ) (r : Reach) (table : List Reach) → k < length table → get_or table k Never ≡ Never → (r ≡ Never → ⊥) → steps_from steps n (set table k r) + length (leaving steps (n + k)) ≡ steps_from steps n table
from_set steps n k r [] lt e told = absurd (omega arith)
from_set steps n zero Never (x ∷ table) lt e told = absurd (told refl)
from_set steps n zero Large (Never ∷ table) lt e told = let same : n + 0 ≡ n = omega arith in omega (arith, ap (λ m. length (leaving steps m)) same)
from_set steps n zero (Least c o) (Never ∷ table) lt e told = let same : n + 0 ≡ n = omega arith in omega (arith, ap (λ m. length (leaving steps m)) same)
from_set steps n zero Large (Large ∷ table) lt e told = absurd cc
from_set steps n zero Large (Least a b ∷ table) lt e told = absurd cc
from_set steps n zero (Least c o) (Large ∷ table) lt e told = absurd cc
from_set steps n zero (Least c o) (Least a b ∷ table) lt e told = absurd cc
from_set steps n (suc k) r (Never ∷ table) lt e told = let same : n + 1 + k ≡ n + suc k = omega arith in omega (arith, from_set steps (n + 1) k r table (omega arith) e told, ap (λ m. length (leaving steps m)) same)
from_set steps n (suc k) r (Large ∷ table) lt e told = let same : n + 1 + k ≡ n + suc k = omega arith in omega (arith, from_set steps (n + 1) k r table (omega arith) e told, ap (λ m. length (leaving steps m)) same)
from_set steps n (suc k) r (Least a b ∷ table) lt e told = let same : n + 1 + k ≡ n + suc k = omega arith in omega (arith, from_set steps (n + 1) k r table (omega arith) e told, ap (λ m. length (leaving steps m)) same)

pub unsettled-set : (steps : List Step) (n : ℕ) (r : Reach) (table : List Reach) → IsNode (length table) n → reach_at table n ≡ Never → (r ≡ Never → ⊥) → unsettled_steps steps (set table (n - 1) r) + length (leaving steps n) ≡ unsettled_steps steps table
unsettled-set steps n r table h e told =
    let same : 1 + (n - 1) ≡ n = omega arith in
    omega (arith, from_set steps 1 (n - 1) r table (omega arith) (sym (entry_or-at Never table n h.0) ∙ e) told, ap (λ m. length (leaving steps m)) same)
