-- The sets of a manifest that is read. Working words of proofs.
use Rattle.std.specs.Prelude.{◌≡◌, ◌↔◌, ℕ, Bool, true, false, IsTrue, List, Option, Some, None}
use Rattle.cs_grammar.specs.Sentence.{framed}
use Rattle.cs_goals.specs.declared.goal.Goal.{Goal}
use Rattle.cs_yacc.specs.Reading.File.{File}
use Rattle.cs_lines.specs.Lines.Line.{Line}
use Rattle.cs_lines.specs.Lines.Numbers.{IsRead}
use Rattle.cs_closed.specs.Closed.Sets.{PlainSets}
use Rattle.cs_closed.specs.Closed.Closed.{AreClosed}
use Rattle.cs_check.specs.Passing.Above.{has_sets}
use Rattle.cs_check.specs.Passing.Head.{AreClaimed}
use Rattle.cs_check.specs.Passing.Entries.{IsExcluded, IsKeptApart}

-- they are those that the lines claim, if there are such lines
abbrev pub AreSetsIn : File → List Line → Option PlainSets → Type 0
AreSetsIn file lines None = has_sets lines ≡ false
AreSetsIn file lines (Some s) = (has_sets lines ≡ true) × AreClaimed file lines s

-- what the lines claim is closed
abbrev pub ClaimsClosed : File → List Line → Type 0
ClaimsClosed file lines = (s : PlainSets) → AreClaimed file lines s → AreClosed file.grammar s

-- the answer tells whether the goal is excluded, whatever lines have claimed the sets
abbrev pub TellsExcluded : File → Option PlainSets → Goal → Bool → Type 0
TellsExcluded file sets goal so = (lines : List Line) → AreSetsIn file lines sets → IsTrue so ↔ IsExcluded file lines goal

-- whether what they claim is closed
abbrev pub TellsClosed : File → PlainSets → Bool → Type 0
TellsClosed file s so = (lines : List Line) → AreClaimed file lines s → IsTrue so ↔ ClaimsClosed file lines

-- whether the marks with these names stand at the place, and are kept apart
abbrev pub TellsApart : File → Option PlainSets → List ℕ → ℕ → List ℕ → List ℕ → Bool → Type 0
TellsApart file sets tokens at left right so =
    (lines : List Line) (n : ℕ) → AreSetsIn file lines sets → IsRead n at
    → IsTrue so ↔ IsKeptApart file lines (framed tokens) n left right
