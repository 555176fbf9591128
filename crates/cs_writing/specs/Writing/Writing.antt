-- What the counts of a manifest say of its text.
use Rattle.std.specs.Prelude.{◌≡◌, ◌++◌, ℕ, List, None, length}
use Rattle.cs_manifest.specs.Output.Putting.{shown}
use Rattle.cs_manifest.specs.declared.manifest.counts.Counts.{Counts}
use Rattle.cs_manifest.specs.Manifest.Counts.{end_of}

-- The text ends with the end line of these counts, and they have its length.
pub record EndsWith (counts : Counts) (text : List ℕ) : Type 0 where
  pub before : List ℕ
  pub line : text ≡ before ++ end_of counts
  pub bytes : counts.bytes ≡ shown (length text)

-- no cases were counted, as in the first format
abbrev pub HasNoCases : Counts → Type 0
HasNoCases counts = counts.cases ≡ None

-- each such text has these counts
abbrev pub CountsOfAll : (List ℕ → Type 0) → Counts → Type 0
CountsOfAll Is counts = (text : List ℕ) → Is text → EndsWith counts text
