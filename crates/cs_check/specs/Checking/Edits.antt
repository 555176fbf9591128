-- What the code answers of an edit. Working words of proofs.
use Rattle.std.specs.Prelude.{◌≡◌, ◌<◌, ◌≤◌, ℕ, Bool, true, false, IfOk, Result, List, Option, Some, None}
use Rattle.cs_yacc.specs.Reading.File.{File}
use Rattle.cs_lines.specs.Words.Edits.{EditWords, Deletes, Inserts, Replaces, Swaps, IsEdited, FitsList}
use Rattle.cs_lines.specs.declared.lines.line.EditWords as held
use Rattle.cs_lines.specs.Lines.Numbers.{IsRead}
use Rattle.cs_lines.specs.Lines.Read.{TellsEdit}

-- the edit makes y of the list, or else doesn't fit it
abbrev pub IsEditedIf : Bool → File → List ℕ → EditWords → List ℕ → Type 0
IsEditedIf true file w edit y = IsEdited file w edit y
IsEditedIf false file w edit y = FitsList file w edit → ⊥

-- the number itself, where it is below an end, and else none
abbrev pub IsBelow : ℕ → ℕ → Option ℕ → Type 0
IsBelow number end None = end ≤ number
IsBelow number end (Some place) = (place ≡ number) × (number < end)

-- the answers to edits at a place that is read so
abbrev pub Edited : {E : Type 0} → File → List ℕ → EditWords → List ℕ → Result Bool E → Type 0
Edited file w edit y result = IfOk result (λ fits. IsEditedIf fits file w edit y)

abbrev pub DeletesAt : {E : Type 0} → ℕ → List ℕ → List ℕ → Result Bool E → Type 0
DeletesAt at w y result = (file : File) (n : ℕ) → IsRead n at → Edited file w (Deletes n) y result

abbrev pub InsertsAt : {E : Type 0} → File → ℕ → List ℕ → List ℕ → List ℕ → Result Bool E → Type 0
InsertsAt file at name w y result = (n : ℕ) → IsRead n at → Edited file w (Inserts n name) y result

abbrev pub ReplacesAt : {E : Type 0} → File → ℕ → List ℕ → List ℕ → List ℕ → Result Bool E → Type 0
ReplacesAt file at name w y result = (n : ℕ) → IsRead n at → Edited file w (Replaces n name) y result

abbrev pub SwapsAt : {E : Type 0} → ℕ → List ℕ → List ℕ → Result Bool E → Type 0
SwapsAt at w y result = (file : File) (n : ℕ) → IsRead n at → Edited file w (Swaps n) y result

-- and to an edit that is told
abbrev pub EditsTold : {E : Type 0} → File → held.EditWords → List ℕ → List ℕ → Result Bool E → Type 0
EditsTold file told w y result = (words : EditWords) → TellsEdit told words → Edited file w words y result
