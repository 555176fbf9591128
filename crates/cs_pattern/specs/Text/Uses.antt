-- Which definitions use which.
use Rattle.std.specs.Prelude.{◌≡◌, ◌⊎◌, ℕ, List, [], ◌∷◌, ◌++◌, Option, Some, None, slice_get}
use Rattle.std.specs.List.{AllByRecursion}
use Rattle.cs_pattern_parts.specs.Items.Items.{Item, class, quoted, named, opening, closing, bar, repetition, Placed, items_of}
use Rattle.cs_pattern.specs.Text.Table.{Reads}
use Rattle.cs_pattern.specs.Operations.Definitions.{Definition, index_of}

-- the index of the definition that an item names
abbrev pub used : List Definition → Item → Option ℕ
used ds (named name) = index_of name ds
used ds (class set) = None
used ds (quoted bytes) = None
used ds opening = None
used ds closing = None
used ds bar = None
used ds (repetition r) = None

-- some item names the definition of that index
abbrev pub Uses : List Definition → List Item → ℕ → Type 0
Uses ds [] to = ⊥
Uses ds (i ∷ items) to = (used ds i ≡ Some to) ⊎ Uses ds items to

-- the text of the one definition names the other
pub record UsesDefinition (ds : List Definition) (from to : ℕ) : Type 0 where
  pub definition : Definition
  pub is : slice_get ds from ≡ Some definition
  pub items : List Placed
  pub read : Reads definition.text items
  pub uses : Uses ds (items_of items) to

-- a definition uses another, or one that reaches it
pub data Reaches (ds : List Definition) : ℕ → ℕ → Type 0 where
  directly : (from to : ℕ) → UsesDefinition ds from to → Reaches ds from to
  through : (from next to : ℕ) → UsesDefinition ds from next → Reaches ds next to → Reaches ds from to

-- the item names the definition, or one that reaches it
abbrev pub LeadsTo : List Definition → ℕ → Placed → Type 0
LeadsTo ds to p = (next : ℕ) × (used ds p.item ≡ Some next) × ((next ≡ to) ⊎ Reaches ds next to)

-- the first item that leads to the definition stands at the offset
pub record IsFirstTo (ds : List Definition) (to : ℕ) (items : List Placed) (at : ℕ) : Type 0 where
  pub before : List Placed
  pub first : Placed
  pub behind : List Placed
  pub is : items ≡ before ++ first ∷ behind
  pub place : first.at ≡ at
  pub leads : LeadsTo ds to first
  pub none_before : AllByRecursion (λ p. LeadsTo ds to p → ⊥) before
