-- What the code finds of uses.
use Rattle.std.specs.Prelude.{ℕ, List, [], ◌∷◌, ◌++◌, Option, MatchOption}
use Rattle.std.specs.List.{filter_map, AllByRecursion}
use Rattle.std.specs.Global.{Vec}
use Rattle.cs_pattern_parts.specs.declared.items.item.Item as item_code
use Rattle.cs_pattern_parts.specs.declared.items.item.Placed as placed_code
use Rattle.cs_pattern_parts.specs.Items.Items.{items_of}
use Rattle.cs_pattern_parts.specs.Items.Views.{item_of, placed_of, placed_all}
use Rattle.cs_pattern.specs.Operations.Definitions.{definitions_of}
use Rattle.cs_pattern.specs.Text.Uses.{used, LeadsTo, IsFirstTo}

-- with the definition that the item names, if it names one
abbrev pub with_use : List (Vec ℕ × Vec ℕ) → List ℕ → item_code.Item → List ℕ
with_use entries uses i = uses ++ filter_map (used (definitions_of entries)) (item_of i ∷ [])

-- the definitions that the items name, in order
abbrev pub all_uses : List (Vec ℕ × Vec ℕ) → List placed_code.Placed → List ℕ
all_uses entries items = filter_map (used (definitions_of entries)) (items_of (placed_all items))

-- the item names the definition, or one that reaches it
abbrev pub LeadsBack : List (Vec ℕ × Vec ℕ) → ℕ → placed_code.Placed → Type 0
LeadsBack entries to p = LeadsTo (definitions_of entries) to (placed_of p)

-- the offset of the first item that leads back to the definition, if one does
abbrev pub IsFirstBack : List (Vec ℕ × Vec ℕ) → ℕ → List placed_code.Placed → Option ℕ → Type 0
IsFirstBack entries to items found =
    MatchOption found
    (AllByRecursion (λ p. LeadsTo (definitions_of entries) to p → ⊥) (placed_all items))
    (IsFirstTo (definitions_of entries) to (placed_all items))
