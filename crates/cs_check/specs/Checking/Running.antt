-- What the lines above have told the pass, and how it judges the next one. Working words of the code's contracts.
use Rattle.std.specs.Prelude.{◌≡◌, ◌↔◌, ◌<◌, ◌≤◌, ◌+◌, ◌^◌, ◌⊎◌, ℕ, Bool, List, [], ◌∷◌, ◌++◌, Option, Some, None, Result, IfOk, IsTrue, length}
use Rattle.std.specs.List.{Contains}
use Rattle.cs_yacc.specs.Reading.File.{File}
use Rattle.cs_scanner.specs.Scan.Scan.{Scanning}
use Rattle.cs_lines.specs.declared.lines.line.Line as held
use Rattle.cs_lines.specs.declared.lines.line.Line.TheVariants as lines
use Rattle.cs_lines.specs.Lines.Line.{Line}
use Rattle.cs_lines.specs.Words.Words.{line}
use Rattle.cs_lines.specs.Lines.Texts.{Says}
use Rattle.cs_lines.specs.Lines.Read.{Tells, IsText, numbers_in}
use Rattle.cs_check.specs.declared.passing.fault.ClaimFault.{ClaimFault}
use Rattle.cs_check.specs.declared.passing.fault.ClaimFault.TheVariants.{Form}
use Rattle.cs_check.specs.declared.checking.head.Head.{Head}
use Rattle.cs_check.specs.declared.checking.entries.Entries.{Entries}
use Rattle.cs_check.specs.declared.checking.above.Above.{Above}
use Rattle.cs_check.specs.declared.checking.above.Place.{Place}
use Rattle.cs_check.specs.declared.checking.above.Place.TheVariants as place
use Rattle.cs_check.specs.declared.checking.pass.Outcome.{Outcome}
use Rattle.cs_check.specs.declared.checking.pass.Outcome.TheVariants.{Yes, No}
use Rattle.cs_check.specs.Passing.Head.{head_size}
use Rattle.cs_check.specs.Passing.Places.{Part, InHead, OfEnd, part_of, last_part, next_parts, IsNumbered, IsInHead, IsBehindHead, MayCome}
use Rattle.cs_check.specs.Passing.Faults.{Checked}
use Rattle.cs_check.specs.Checking.Head.{KnowsHead, HasEnded}
use Rattle.cs_check.specs.Checking.Judging.{IsRight, IsWrong}
use Rattle.cs_check.specs.Checking.Told.{AreEntries, checked_by}

-- ---- what is known of the lines above

-- a line stands behind the head
pub record IsPast (file : File) (above : List Line) (head : Head) : Type 0 where
  pub ended : HasEnded file above head
  pub past : head_size file.grammar above < length above

-- or the next one may still be in the head
abbrev pub KnowsPlace : File → List Line → Head → Part → Type 0
KnowsPlace file above head InHead = KnowsHead file above head
KnowsPlace file above head part = IsPast file above head

pub record KnowsAbove (file : File) (above : List Line) (a : Above) : Type 0 where
  pub part : a.part ≡ last_part above
  pub place : KnowsPlace file above a.head (last_part above)
  pub entries : AreEntries file above a.entries

-- ---- where a line stands

-- the answer tells whether it stands in the head
abbrev pub TellsInside : File → Above → held.Line → Bool → Type 0
TellsInside file a told so =
    (above : List Line) (l : Line) → KnowsAbove file above a → Tells told l → IsTrue so ↔ IsInHead file.grammar above l

-- whether the head is at its end
abbrev pub TellsPast : File → Above → Bool → Type 0
TellsPast file a so =
    (above : List Line) → KnowsAbove file above a → IsTrue so ↔ (head_size file.grammar above ≤ length above)

-- whether it may come behind the last line
abbrev pub MayFollow : List Line → Line → Type 0
MayFollow above l = Contains (next_parts (last_part above)) (part_of (last_part above) l) × IsNumbered above l

abbrev pub TellsFollowing : Above → held.Line → Bool → Type 0
TellsFollowing a told so =
    (file : File) (above : List Line) (l : Line) → KnowsAbove file above a → Tells told l → IsTrue so ↔ MayFollow above l

abbrev pub IsPlaced : File → List Line → Line → Place → Type 0
IsPlaced file above l place.InHead = IsInHead file.grammar above l
IsPlaced file above l place.Behind = IsBehindHead file.grammar above l
IsPlaced file above l place.Nowhere = MayCome file.grammar above l → ⊥

abbrev pub TellsPlace : File → Above → held.Line → Place → Type 0
TellsPlace file a told place =
    (above : List Line) (l : Line) → KnowsAbove file above a → Tells told l → IsPlaced file above l place

-- ---- how it is judged

-- its rule numbers and the bytes of its text can be counted
abbrev pub IsShort : held.Line → Type 0
IsShort (lines.Derive numbers) = length (numbers_in numbers) < 2 ^ 32
IsShort (lines.Text quoted) = (text : List ℕ) → IsText quoted text → length text < 2 ^ 32
IsShort told = Unit {0}

-- a line is right, and what is known then; or this is its lowest fault
abbrev pub IsEntryJudged : Checked → List Line → Line → Entries → Option ClaimFault → Type 0
IsEntryJudged c above l new None = IsRight c above l × AreEntries c.file (above ++ l ∷ []) new
IsEntryJudged c above l new (Some f) = IsWrong c above l f

abbrev pub IsLineJudged : Checked → List Line → Line → Above → Option ClaimFault → Type 0
IsLineJudged c above l new None = IsRight c above l × KnowsAbove c.file (above ++ l ∷ []) new
IsLineJudged c above l new (Some f) = IsWrong c above l f

-- bytes with their newline say a line that is judged so, or say none
abbrev pub IsPieceJudged : Checked → List Line → List ℕ → Above → Option ClaimFault → Type 0
IsPieceJudged c above bytes new None =
    (l : Line) × Says bytes l × IsRight c above l × KnowsAbove c.file (above ++ l ∷ []) new
IsPieceJudged c above bytes new (Some f) =
    ((l : Line) × Says bytes l × IsWrong c above l f) ⊎ ((f ≡ Form) × ((l : Line) → Says bytes l → ⊥))

-- a line behind the head, where it may come
abbrev pub JudgesEntry : {E : Type 0} → File → Scanning → Entries → Head → held.Line → Entries → Result (Option ClaimFault) E → Type 0
JudgesEntry file scanning old head told new result =
    (above : List Line) (l : Line) → AreEntries file above old → HasEnded file above head → Tells told l
    → IsBehindHead file.grammar above l → length above + 1 < 2 ^ 32 → IfOk result (IsEntryJudged (checked_by file scanning) above l new)

-- a line of this place
abbrev pub JudgesAt : {E : Type 0} → Place → File → Scanning → Above → held.Line → Above → Result (Option ClaimFault) E → Type 0
JudgesAt place file scanning old told new result =
    (above : List Line) (l : Line) → KnowsAbove file above old → Tells told l → IsPlaced file above l place
    → length above + 1 < 2 ^ 32 → IfOk result (IsLineJudged (checked_by file scanning) above l new)

abbrev pub JudgesInside : {E : Type 0} → File → Above → held.Line → Above → Result (Option ClaimFault) E → Type 0
JudgesInside file old told new result = (scanning : Scanning) → JudgesAt place.InHead file scanning old told new result

abbrev pub JudgesBehind : {E : Type 0} → File → Scanning → Above → held.Line → Above → Result (Option ClaimFault) E → Type 0
JudgesBehind file scanning old told new result = JudgesAt place.Behind file scanning old told new result

-- any line
abbrev pub JudgesLine : {E : Type 0} → File → Scanning → Above → held.Line → Above → Result (Option ClaimFault) E → Type 0
JudgesLine file scanning old told new result =
    (above : List Line) (l : Line) → KnowsAbove file above old → Tells told l
    → length above + 1 < 2 ^ 32 → IfOk result (IsLineJudged (checked_by file scanning) above l new)

-- any bytes
abbrev pub JudgesPiece : {E : Type 0} → File → Scanning → Above → List ℕ → Above → Result (Option ClaimFault) E → Type 0
JudgesPiece file scanning old bytes new result =
    (above : List Line) → KnowsAbove file above old → length above + 1 < 2 ^ 32
    → IfOk result (IsPieceJudged (checked_by file scanning) above bytes new)

-- bytes without a newline at their end, and those with this text in front of it
abbrev pub IsUnended : List ℕ → Type 0
IsUnended bytes = (text : List ℕ) → bytes ≡ line text → ⊥

abbrev pub IsEnded : List ℕ → List ℕ → Type 0
IsEnded bytes text = bytes ≡ line text

-- what is answered at the end of the text, where no line has a fault
abbrev pub IsEndAnswer : Above → ℕ → Outcome → Type 0
IsEndAnswer a line (Yes goals negatives) =
    (a.part ≡ OfEnd) × (goals ≡ a.entries.counts.goals) × (negatives ≡ a.entries.counts.negatives)
IsEndAnswer a line (No number fault) = (a.part ≡ OfEnd → ⊥) × (number ≡ line) × (fault ≡ Form)
