-- The steps that leave each node, kept in rows.
use Rattle.std.specs.Prelude.{◌≡◌, ◌==◌, ℕ, ◌+◌, List, Some, length, slice_get}
use Rattle.std.specs.List.{filter}
use Rattle.std.specs.Global.{Vec}
use Rattle.cs_least.specs.declared.ways.step.Step.{Step}
use Rattle.cs_least.specs.Ways.Ways.{Net, IsNet}

-- the steps that leave a node, in their order
abbrev pub leaving : List Step → ℕ → List Step
leaving steps n = filter (λ (s : Step). s.from == n) steps

-- row k holds the steps that leave node k + 1
pub record AreRows (nodes : ℕ) (steps : List Step) (rows : List (Vec Step)) : Type 0 where
  pub many : length rows ≡ nodes
  pub each : (k : ℕ) → (row : Vec Step) → slice_get rows k ≡ Some row → row.items ≡ leaving steps (k + 1)

-- the rows of a net
pub record AreRowsOf (net : Net) (rows : List (Vec Step)) : Type 0 where
  pub steps : IsNet net
  pub kept : AreRows net.nodes net.steps rows
