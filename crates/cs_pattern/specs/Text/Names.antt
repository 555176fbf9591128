-- Which names of a text are defined.
use Rattle.std.specs.Prelude.{ℕ, Bool, false, not, if◌then◌else◌, List, [], ◌∷◌, Option, Some, None}
use Rattle.cs_pattern_parts.specs.Items.Items.{Item, class, quoted, named, opening, closing, bar, repetition, Placed}
use Rattle.cs_pattern.specs.Operations.Definitions.{Definition, has_name}

-- a name that has no definition
abbrev pub is_undefined : List Definition → Item → Bool
is_undefined ds (named name) = not (has_name name ds)
is_undefined ds (class set) = false
is_undefined ds (quoted bytes) = false
is_undefined ds opening = false
is_undefined ds closing = false
is_undefined ds bar = false
is_undefined ds (repetition r) = false

-- the offset of the first of them
abbrev pub first_undefined : List Definition → List Placed → Option ℕ
first_undefined ds [] = None
first_undefined ds (p ∷ ps) = if is_undefined ds p.item then Some p.at else first_undefined ds ps
