-- Tight steps.
use Rattle.std.specs.Prelude.{◌≡◌, ℕ, ◌+◌, ◌-◌, List, Option, None, slice_index_or}
use Rattle.cs_least.specs.declared.ways.step.Step.{Step}
use Rattle.cs_least.specs.declared.ways.reach.Reach.{Reach}
use Rattle.cs_least.specs.declared.ways.reach.Reach.TheVariants.{Never, Large, Least}
use Rattle.cs_least.specs.Ways.Ways.{reach_at}

-- a cost within the limit, a step's cost and another cost within it: the first two make the third
abbrev pub AreTight : Reach → ℕ → Reach → Type 0
AreTight (Least before o) cost (Least after p) = before + cost ≡ after
AreTight (Least before o) cost Large = ⊥
AreTight (Least before o) cost Never = ⊥
AreTight Large cost r = ⊥
AreTight Never cost r = ⊥

abbrev pub IsTight : List Reach → Step → Type 0
IsTight table s = AreTight (reach_at table s.from) s.cost (reach_at table s.to)

-- the step is tight, and none to its node is known so far
pub record IsFirstTight (table : List Reach) (firsts : List (Option ℕ)) (s : Step) : Type 0 where
  pub unknown : slice_index_or firsts (s.to - 1) None ≡ None
  pub tight : IsTight table s
