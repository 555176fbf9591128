-- The items of a pattern's text.
use Rattle.std.specs.Prelude.{ℕ, List, map}
use Rattle.cs_pattern_parts.specs.declared.items.item.Repetition.{Repetition}

pub data Item : Type 0 where
  -- a byte, an escape, `.` or a bracket: the bytes for which it stands
  class : List ℕ → Item
  -- a quoted text: its bytes
  quoted : List ℕ → Item
  -- `{name}`
  named : List ℕ → Item
  opening : Item
  closing : Item
  bar : Item
  repetition : Repetition → Item

-- an item, and the offset of its first byte
pub record Placed : Type 0 where
  pub at : ℕ
  pub item : Item

abbrev pub items_of : List Placed → List Item
items_of = map (λ p. p.item)
