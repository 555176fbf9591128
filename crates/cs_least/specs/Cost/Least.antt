-- The least size of a kind of things, and the cost that tells of it.
use Rattle.std.specs.Prelude.{◌≡◌, ℕ, ◌<◌, ◌≤◌}
use Rattle.cs_least.specs.declared.cost.cost.Cost.{Cost}
use Rattle.cs_least.specs.declared.cost.cost.Cost.TheVariants.{Never, Large, Least}

-- Some member of the kind has this size, and none has less. A kind is of trees, or of contexts; measure gives a
-- member's size.
pub record IsLeast {A : Type 0} (Kind : A → Type 0) (measure : A → ℕ) (n : ℕ) : Type 0 where
  pub reached : (a : A) × Kind a × (measure a ≡ n)
  pub least : (a : A) → Kind a → n ≤ measure a

-- The cost of a kind under a limit. Never: it has no member. Large: it has one, and each is larger than the limit. Else
-- its least size, which is within the limit.
abbrev pub IsCost : {A : Type 0} → ℕ → (A → Type 0) → (A → ℕ) → Cost → Type 0
IsCost limit Kind measure Never = (a : _) → Kind a → ⊥
IsCost limit Kind measure Large = (a : _) × Kind a × ((b : _) → Kind b → limit < measure b)
IsCost limit Kind measure (Least n) = (n ≤ limit) × IsLeast Kind measure n
