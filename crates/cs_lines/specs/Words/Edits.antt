-- What an edit of a list of tokens makes of it, as the words of a line tell the edit.
use Rattle.std.specs.Prelude.{◌≡◌, ℕ, ◌+◌, ◌<◌, ◌≤◌, List, [], ◌∷◌, ◌++◌, length, take, drop, slice_index}
use Rattle.cs_yacc.specs.Reading.File.{File}
use Rattle.cs_lines.specs.Words.Names.{IsTokenNamed}

-- an edit at a place, counted from 0, with the name of the token that it puts
pub data EditWords : Type 0 where
  Deletes : (place : ℕ) → EditWords
  Inserts : (place : ℕ) → (name : List ℕ) → EditWords
  Replaces : (place : ℕ) → (name : List ℕ) → EditWords
  Swaps : (place : ℕ) → EditWords

-- the list with other tokens in place of so many from a place on
abbrev pub patched : List ℕ → ℕ → List ℕ → ℕ → List ℕ
patched w i put gone = take i w ++ put ++ drop (i + gone) w

-- The edit fits the list and makes y of it. Its place is that of a token, for an insertion also the end, for a swap not the last.
abbrev pub IsEdited : File → List ℕ → EditWords → List ℕ → Type 0
IsEdited file w (Deletes i) y = (i < length w) × (y ≡ patched w i [] 1)
IsEdited file w (Inserts i name) y = (i ≤ length w) × (t : ℕ) × IsTokenNamed file name t × (y ≡ patched w i (t ∷ []) 0)
IsEdited file w (Replaces i name) y = (i < length w) × (t : ℕ) × IsTokenNamed file name t × (y ≡ patched w i (t ∷ []) 1)
IsEdited file w (Swaps i) y =
    (i + 1 < length w) × (y ≡ patched w i (slice_index w (i + 1) ∷ slice_index w i ∷ []) 2)

-- it fits the list
abbrev pub FitsList : File → List ℕ → EditWords → Type 0
FitsList file w edit = (y : List ℕ) × IsEdited file w edit y
