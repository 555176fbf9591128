-- What is found out of text lines, base lines and negative lines. Working words of the code's contracts.
use Rattle.std.specs.Prelude.{◌↔◌, ◌<◌, ◌+◌, ◌^◌, Bool, IfOk, IsTrue, Result, ℕ, List, [], ◌∷◌, ◌++◌, Option, Some, None, length}
use Rattle.std.specs.List.{Contains}
use Rattle.cs_yacc.specs.Reading.File.{File}
use Rattle.cs_scanner.specs.Scan.Scan.{Scanning}
use Rattle.cs_check.specs.declared.checking.entries.Entries.{Entries}
use Rattle.cs_check.specs.declared.checking.negatives.Negative.{Negative}
use Rattle.cs_check.specs.declared.passing.fault.ClaimFault.{ClaimFault}
use Rattle.cs_check.specs.declared.passing.fault.ClaimFault.TheVariants.{Goal, Base, Edit, Pair}
use Rattle.cs_lines.specs.declared.lines.quoted.Quoted.{Quoted}
use Rattle.cs_lines.specs.Words.Edits.{EditWords}
use Rattle.cs_lines.specs.Lines.Line.{Line, TextLine, BaseLine, NegativeLine}
use Rattle.cs_lines.specs.Lines.Numbers.{IsRead}
use Rattle.cs_lines.specs.Lines.Read.{IsText, TellsEdit}
use Rattle.cs_closed.specs.Closed.Sets.{PlainSets}
use Rattle.cs_check.specs.Passing.Places.{OfBase, OfNegative, text_part, last_part, next_parts}
use Rattle.cs_check.specs.Passing.Entries.{HasCase}
use Rattle.cs_check.specs.Passing.Faults.{HasScan, HasGoal, HasBase, HasEdit, HasPair}
use Rattle.cs_check.specs.Checking.Excluded.{AreSetsIn}
use Rattle.cs_check.specs.Checking.Told.{AreEntries, checked_by}

-- the answer tells whether the text of a text line scans to the tokens, where it may come
abbrev pub TellsScan : {E : Type 0} → Scanning → Entries → Quoted → Result Bool E → Type 0
TellsScan scanning e quoted result =
    (file : File) (lines : List Line) (text : List ℕ) → AreEntries file lines e
    → Contains (next_parts (last_part lines)) (text_part (last_part lines)) → IsText quoted text → length text < 2 ^ 32
    → IfOk result (λ so. IsTrue so ↔ HasScan (checked_by file scanning) lines (TextLine text))

-- the place of the case of a goal, if it has one
abbrev pub IsCasePlace : List Line → ℕ → Option ℕ → Type 0
IsCasePlace lines goal None = (case : ℕ) → HasCase lines goal case → ⊥
IsCasePlace lines goal (Some place) = HasCase lines goal (place + 1)

-- the answer is that of the goal with this number
abbrev pub FindsCase : Entries → ℕ → Option ℕ → Type 0
FindsCase e told place = (file : File) (lines : List Line) (goal : ℕ) → AreEntries file lines e → IsRead goal told → IsCasePlace lines goal place

-- a base line is right, and taken, or has the fault
abbrev pub IsBaseJudged : File → List Line → Line → Entries → Option ClaimFault → Type 0
IsBaseJudged file lines l new None = HasGoal file lines l × HasBase lines l × AreEntries file (lines ++ l ∷ []) new
IsBaseJudged file lines l new (Some Goal) = HasGoal file lines l → ⊥
IsBaseJudged file lines l new (Some Base) = HasGoal file lines l × (HasBase lines l → ⊥)
IsBaseJudged file lines l new (Some f) = ⊥

-- it is judged, where it may come
abbrev pub JudgesBase : {E : Type 0} → Entries → ℕ → Entries → Result (Option ClaimFault) E → Type 0
JudgesBase old told new result =
    (file : File) (lines : List Line) (n goal : ℕ) → AreEntries file lines old
    → Contains (next_parts (last_part lines)) OfBase → length lines + 1 < 2 ^ 32
    → IsRead goal told → IfOk result (IsBaseJudged file lines (BaseLine n goal) new)

-- a negative line is right, and taken, or has the fault
abbrev pub IsNegativeJudged : File → List Line → Line → Entries → Option ClaimFault → Type 0
IsNegativeJudged file lines l new None =
    HasBase lines l × HasEdit file lines l × HasPair file lines l × AreEntries file (lines ++ l ∷ []) new
IsNegativeJudged file lines l new (Some Base) = HasBase lines l → ⊥
IsNegativeJudged file lines l new (Some Edit) = HasBase lines l × (HasEdit file lines l → ⊥)
IsNegativeJudged file lines l new (Some Pair) = HasBase lines l × HasEdit file lines l × (HasPair file lines l → ⊥)
IsNegativeJudged file lines l new (Some f) = ⊥

-- the line of this number with what is told, whose numbers are these
abbrev pub negative_of : Negative → ℕ → ℕ → EditWords → ℕ → Line
negative_of told n base edit at = NegativeLine n base edit told.left.now told.right.now at

-- it is judged, where it may come
abbrev pub JudgesNegative : {E : Type 0} → File → Option PlainSets → Entries → Negative → Entries → Result (Option ClaimFault) E → Type 0
JudgesNegative file sets old told new result =
    (lines : List Line) (n base : ℕ) (edit : EditWords) (at : ℕ) → AreEntries file lines old → AreSetsIn file lines sets
    → Contains (next_parts (last_part lines)) OfNegative → length lines + 1 < 2 ^ 32
    → IsRead base told.base → TellsEdit told.edit edit → IsRead at told.at
    → IfOk result (IsNegativeJudged file lines (negative_of told n base edit at) new)
