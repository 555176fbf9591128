-- The lines of a text, each with its newline; the last may have none.
use Rattle.std.specs.Prelude.{ℕ, ◌==◌, if◌then◌else◌, List, [], ◌∷◌, ◌++◌, map, Option, Some, None}
use Rattle.cs_bytes.specs.Names.{newline}

-- a byte in front of the first line
abbrev pub onto : ℕ → List (List ℕ) → List (List ℕ)
onto b [] = (b ∷ []) ∷ []
onto b (line ∷ lines) = (b ∷ line) ∷ lines

abbrev pub lines_of : List ℕ → List (List ℕ)
lines_of [] = []
lines_of (b ∷ text) = if b == newline then (b ∷ []) ∷ lines_of text else onto b (lines_of text)

-- the lines, and the end of the text as one more
abbrev pub ended : List ℕ → List (Option (List ℕ))
ended text = map Some (lines_of text) ++ None ∷ []
