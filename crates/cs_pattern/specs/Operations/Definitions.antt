-- Definitions: names with the texts for which they stand.
use Rattle.std.specs.Prelude.{ℕ, ◌+◌, Bool, List, Option, map, position, is_some, length, sum_by}
use Rattle.std.specs.Str.{bytes_eq}
use Rattle.std.specs.Global.{Vec}

pub record Definition : Type 0 where
  pub name : List ℕ
  pub text : List ℕ

abbrev pub definition_of : Vec ℕ × Vec ℕ → Definition
definition_of e = record { name = e.0.items; text = e.1.items }

abbrev pub definitions_of : List (Vec ℕ × Vec ℕ) → List Definition
definitions_of = map definition_of

-- the index of the definition of a name
abbrev pub index_of : List ℕ → List Definition → Option ℕ
index_of name ds = position (λ d. bytes_eq name d.name) ds

-- a definition has the name
abbrev pub has_name : List ℕ → List Definition → Bool
has_name name ds = is_some (index_of name ds)

-- the bytes of all names and texts together
abbrev pub total_bytes : List Definition → ℕ
total_bytes ds = sum_by (λ d. length d.name + length d.text) ds
