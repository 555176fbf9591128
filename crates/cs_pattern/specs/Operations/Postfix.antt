-- How the operations of a text's items are made.
use Rattle.std.specs.Prelude.{ℕ, ◌+◌, ◌-◌, ◌^◌, min, List, [], ◌∷◌, ◌++◌, length, take, slice_index_or}
use Rattle.cs_pattern.specs.declared.operations.operations.Level.{Level}
use Rattle.cs_pattern.specs.declared.operations.operations.Reader as code
use Rattle.cs_pattern_parts.specs.Items.Items as items
use Rattle.cs_pattern_parts.specs.declared.items.item.Item as item_code
use Rattle.cs_pattern_parts.specs.declared.items.item.Repetition.{Repetition}
use Rattle.cs_pattern_parts.specs.Items.Views.{item_of}
use Rattle.cs_pattern_parts.specs.Items.Items.{Item}
use Rattle.std.specs.Global.{Vec}
use Rattle.cs_pattern.specs.Operations.Trees.{entry_number}
use Rattle.cs_pattern.specs.Operations.Operations.{Op, ops_of, class, quoted, substitute, repeat, group, join, either}

-- the operations so far, the open groups from the outermost on, and the group that is read
pub record State : Type 0 where
  pub ops : List Op
  pub outer : List Level
  pub level : Level

abbrev pub state_of : code.Reader → State
state_of r = record { ops = ops_of r.ops.items; outer = r.outer.items; level = r.level }

abbrev pub in_64_bits : ℕ → ℕ
in_64_bits n = min n (2 ^ 64 - 1)

abbrev pub new_level : Level
new_level = record { branches = 0; pieces = 0 }

abbrev pub with_piece : Level → Level
with_piece l = record { branches = l.branches; pieces = in_64_bits (l.pieces + 1) }

abbrev pub with_branch : Level → Level
with_branch l = record { branches = in_64_bits (l.branches + 1); pieces = 0 }

-- the operations that end the branch and the pattern of a group
abbrev pub ended : Level → List Op
ended l = join l.pieces ∷ either (with_branch l).branches ∷ []

abbrev pub with_atom : State → List Op → State
with_atom s ops = record { ops = s.ops ++ ops; outer = s.outer; level = with_piece s.level }

abbrev pub with_name : State → ℕ → State
with_name s index = with_atom s (substitute index ∷ group ∷ [])

abbrev pub with_repetition : State → Repetition → State
with_repetition s r = record { ops = s.ops ++ repeat r ∷ []; outer = s.outer; level = s.level }

abbrev pub barred : State → State
barred s = record { ops = s.ops ++ join s.level.pieces ∷ []; outer = s.outer; level = with_branch s.level }

abbrev pub opened : State → State
opened s = record { ops = s.ops; outer = s.outer ++ s.level ∷ []; level = new_level }

abbrev pub closed : State → State
closed s = record {
  ops = (s.ops ++ ended s.level) ++ group ∷ [];
  outer = take (length s.outer - 1) s.outer;
  level = with_piece (slice_index_or s.outer (length s.outer - 1) new_level);
}

module _ (number : List ℕ → ℕ) where
  abbrev pub step : State → Item → State
  step s (items.class set) = with_atom s (class set ∷ [])
  step s (items.quoted bytes) = with_atom s (quoted bytes ∷ [])
  step s (items.named name) = with_name s (number name)
  step s items.opening = opened s
  step s items.closing = closed s
  step s items.bar = barred s
  step s (items.repetition r) = with_repetition s r

  abbrev pub state_after : State → List Item → State
  state_after s [] = s
  state_after s (i ∷ rest) = state_after (step s i) rest

abbrev pub next_state : List (Vec ℕ × Vec ℕ) → code.Reader → item_code.Item → State
next_state entries reader i = step (entry_number entries) (state_of reader) (item_of i)
