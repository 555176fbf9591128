-- What operations make of a stack of values.
use Rattle.std.specs.Prelude.{ℕ, ◌-◌, List, [], ◌∷◌, ◌++◌, All, length, take, drop, slice_index_or}
use Rattle.cs_pattern_parts.specs.declared.items.item.Repetition.{Repetition}
use Rattle.cs_pattern.specs.Operations.Operations.{Op, class, quoted, substitute, repeat, group, join, either}

-- what each operation makes; `nothing` is the top of an empty stack
pub record Algebra (V : Type 0) : Type 0 where
  pub nothing : V
  pub class : List ℕ → V
  pub quoted : List ℕ → V
  pub substitute : ℕ → V
  pub repeat : Repetition → V → V
  pub group : V → V
  pub join : List V → V
  pub either : List V → V

module _ {V : Type 0} (a : Algebra V) where
  abbrev pub top : List V → V
  top stack = slice_index_or stack (length stack - 1) a.nothing

  abbrev pub below : ℕ → List V → List V
  below count stack = take (length stack - count) stack

  abbrev pub last : ℕ → List V → List V
  last count stack = drop (length stack - count) stack

  abbrev pub step : List V → Op → List V
  step stack (class set) = stack ++ a.class set ∷ []
  step stack (quoted bytes) = stack ++ a.quoted bytes ∷ []
  step stack (substitute index) = stack ++ a.substitute index ∷ []
  step stack (repeat r) = below 1 stack ++ a.repeat r (top stack) ∷ []
  step stack group = below 1 stack ++ a.group (top stack) ∷ []
  step stack (join count) = below count stack ++ a.join (last count stack) ∷ []
  step stack (either count) = below count stack ++ a.either (last count stack) ∷ []

  abbrev pub run : List V → List Op → List V
  run stack [] = stack
  run stack (op ∷ ops) = run (step stack op) ops

  -- at each moment each value on the stack is P
  abbrev pub Keeps : (V → Type 0) → List V → List Op → Type 0
  Keeps P stack [] = All P stack
  Keeps P stack (op ∷ ops) = All P stack × Keeps P (step stack op) ops

  -- what is left on top
  abbrev pub value_of : List Op → V
  value_of ops = top (run [] ops)
