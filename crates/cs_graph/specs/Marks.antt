-- Marks of nodes.
use Rattle.std.specs.Prelude.{◌≡◌, ℕ, ◌+◌, Bool, true, false, List, [], ◌∷◌, slice_index_or}

abbrev pub IsMarked : List Bool → ℕ → Type 0
IsMarked marks node = slice_index_or marks node false ≡ true

-- how many nodes are not marked
abbrev pub unmarked : List Bool → ℕ
unmarked [] = 0
unmarked (true ∷ marks) = unmarked marks
unmarked (false ∷ marks) = unmarked marks + 1
