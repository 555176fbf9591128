-- The steps of an automaton by the ranks of their bytes.
use Rattle.std.specs.Prelude.{◌≡◌, ◌⊎◌, ℕ, ◌<◌, ◌≤◌, List, [], ◌∷◌, ◌++◌, Option, Some, None, length, slice_get, slice_index_or, map}
use Rattle.std.proofs.Common.{Vec, Global}
use Rattle.cs_scanner.specs.Automaton.Machine.{Machine, StateOf, IsNextState}
use Rattle.cs_scanner.specs.declared.lexeme.steps.Step.{Step}
use Rattle.cs_scanner.specs.Lexeme.Bytes.{Rises}
use Rattle.cs_scanner.specs.Lexeme.Rank.{rank}

-- by the byte the state leads there, or nowhere
abbrev pub Goes : Machine → ℕ → ℕ → Option ℕ → Type 0
Goes m state byte to = (x : List ℕ) → StateOf m state x → IsNextState m x byte to

-- a step of the state
pub record IsStep (m : Machine) (state : ℕ) (step : Step) : Type 0 where
  pub byte : step.byte < 256
  pub within : step.to < length m.sets
  pub goes : Goes m state step.byte (Some step.to)

-- the row has a step to where the byte leads, by that byte or one of lower rank
pub record HasStep (row : List Step) (byte to : ℕ) : Type 0 where
  pub place : ℕ
  pub step : Step
  pub at : slice_get row place ≡ Some step
  pub leads : step.to ≡ to
  pub low : rank step.byte ≤ rank byte

-- the byte leads nowhere, or where a step of the row leads
abbrev pub IsCovered : Machine → ℕ → List Step → ℕ → Type 0
IsCovered m state row byte = Goes m state byte None ⊎ ((to : ℕ) × Goes m state byte (Some to) × HasStep row byte to)

abbrev pub step_rank : Step → ℕ
step_rank step = rank step.byte

-- the row has steps of the state, and each byte is covered
pub record IsRow (m : Machine) (state : ℕ) (row : List Step) : Type 0 where
  pub steps : (i : ℕ) (step : Step) → slice_get row i ≡ Some step → IsStep m state step
  pub rises : Rises step_rank row
  pub covered : (byte : ℕ) → byte < 256 → IsCovered m state row byte

-- a step of the row leads to the state
abbrev pub LeadsTo : List Step → ℕ → Type 0
LeadsTo row to = (place : ℕ) × (step : Step) × (slice_get row place ≡ Some step) × (step.to ≡ to)

-- the step was put behind the others, unless one of them leads there
abbrev pub PutsStep : List Step → Step → List Step → Type 0
PutsStep old step new = (LeadsTo old step.to × (new ≡ old)) ⊎ (new ≡ old ++ step ∷ [])

-- for the state that a step leads to stands the place of the step
pub record AreNoted (count : ℕ) (row : List Step) (places : List ℕ) : Type 0 where
  pub all : length places ≡ count
  pub told : (place : ℕ) (step : Step) → slice_get row place ≡ Some step → slice_index_or places step.to 0 ≡ place

-- the row so far: its steps come from the bytes in front of the place, and each of them is covered
pub record IsRowUpTo (m : Machine) (state : ℕ) (bytes : List ℕ) (place : ℕ) (row : List Step) : Type 0 where
  pub steps : (i : ℕ) (step : Step) → slice_get row i ≡ Some step → IsStep m state step
  pub rises : Rises step_rank row
  pub from : (i : ℕ) (step : Step) → slice_get row i ≡ Some step → (j : ℕ) × (j < place) × (slice_get bytes j ≡ Some step.byte)
  pub covered : (j byte : ℕ) → j < place → slice_get bytes j ≡ Some byte → IsCovered m state row byte

-- the same, with the places noted
pub record IsMidRowOf (m : Machine) (state : ℕ) (bytes : List ℕ) (place : ℕ) (row : List Step) (places : List ℕ) : Type 0 where
  pub is_row : IsRowUpTo m state bytes place row
  pub noted : AreNoted (length m.sets) row places

-- rows for the first states
abbrev pub AreFirstRows : Machine → List (List Step) → Type 0
AreFirstRows m rows = (state : ℕ) (row : List Step) → slice_get rows state ≡ Some row → IsRow m state row

-- rows for so many states
pub record AreRowsUpTo (m : Machine) (count : ℕ) (rows : List (List Step)) : Type 0 where
  pub all : length rows ≡ count
  pub each : AreFirstRows m rows

-- the same, with places for all states
pub record AreMidRows (m : Machine) (count : ℕ) (rows : List (List Step)) (places : List ℕ) : Type 0 where
  pub are_rows : AreRowsUpTo m count rows
  pub all : length places ≡ length m.sets

-- a row for each state
pub record AreRows (m : Machine) (rows : List (List Step)) : Type 0 where
  pub all : length rows ≡ length m.sets
  pub each : AreFirstRows m rows

abbrev pub rows_of : List (Vec Step Global) → List (List Step)
rows_of = map (λ v. v.items)
