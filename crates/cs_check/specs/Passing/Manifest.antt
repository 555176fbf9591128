-- The lines that a text says, and when all of them are right.
use Rattle.std.specs.Prelude.{◌≡◌, ℕ, List, ◌∷◌, ◌++◌}
use Rattle.std.specs.List.{AllZip}
use Rattle.cs_check.specs.declared.passing.fault.ClaimFault.{ClaimFault}
use Rattle.cs_lines.specs.Lines.Line.{Line}
use Rattle.cs_lines.specs.Lines.Texts.{Says}
use Rattle.cs_lines.specs.Lines.Pieces.{lines_of}
use Rattle.cs_check.specs.Passing.Places.{OfEnd, last_part}
use Rattle.cs_check.specs.Passing.Faults.{Checked, Has}
use Rattle.cs_check.specs.Passing.Passing.{Passes}

-- the text says these lines, one behind the other
abbrev pub AreLines : List ℕ → List Line → Type 0
AreLines text lines = AllZip Says (lines_of text) lines

-- each line has, by the lines above, what it lacks who has a fault
abbrev pub HaveAll : Checked → List Line → Type 0
HaveAll c lines = (above : List Line) (l : Line) (below : List Line) → lines ≡ above ++ l ∷ below → (f : ClaimFault) → Has c f above l

-- and the last is the end line
pub record AreRight (c : Checked) (lines : List Line) : Type 0 where
  pub each : HaveAll c lines
  pub ended : last_part lines ≡ OfEnd

-- the laws: a text says one list of lines at most
abbrev pub SaysOneList : List ℕ → Type 0
SaysOneList text = (lines others : List Line) → AreLines text lines → AreLines text others → lines ≡ others

-- a text that says right lines passes
abbrev pub RightLinesPass : Checked → List ℕ → Type 0
RightLinesPass c text = (lines : List Line) → AreLines text lines → AreRight c lines → Passes c text

-- and that a text passes which says no right lines cannot be
abbrev pub PassingLinesAreRight : Checked → List ℕ → Type 0
PassingLinesAreRight c text = Passes c text → ((lines : List Line) → AreLines text lines → AreRight c lines → ⊥) → ⊥
