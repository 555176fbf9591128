-- What comes of running numbers, of goal lines and of the end line. Working words of the code's contracts.
use Rattle.std.specs.Prelude.{◌≡◌, ◌↔◌, ◌<◌, ◌+◌, ◌^◌, ◌++◌, ◌∷◌, [], All, Bool, IfOk, IsTrue, Result, ℕ, List, Option, Some, None, length}
use Rattle.std.specs.List.{Contains}
use Rattle.cs_goals.specs.declared.goal.Goal.{Goal}
use Rattle.cs_yacc.specs.Reading.File.{File}
use Rattle.cs_closed.specs.Closed.Sets.{PlainSets}
use Rattle.cs_lines.specs.declared.lines.line.Counts as held_counts
use Rattle.cs_lines.specs.declared.lines.line.GoalWords as held_goals
use Rattle.cs_lines.specs.declared.lines.line.Line as held
use Rattle.cs_lines.specs.declared.lines.line.Verdict as held_verdicts
use Rattle.cs_lines.specs.declared.lines.line.Verdict.TheVariants as verdicts
use Rattle.cs_lines.specs.Lines.Line.{GoalWords, VerdictWords, Infeasible, Counts, Line, GoalLine, EndLine}
use Rattle.cs_lines.specs.Lines.Numbers.{greatest}
use Rattle.cs_lines.specs.Lines.Read.{Tells, TellsCounts, TellsGoal, TellsVerdict}
use Rattle.cs_check.specs.declared.passing.fault.ClaimFault.{ClaimFault}
use Rattle.cs_check.specs.declared.passing.fault.ClaimFault.TheVariants.{Goal as OfGoalFault, Infeasible as OfInfeasible, Totals}
use Rattle.cs_check.specs.declared.checking.entries.Entries.{Entries}
use Rattle.cs_check.specs.Passing.Above.{case_sizes, derivations}
use Rattle.cs_check.specs.Passing.Entries.{IsExcluded}
use Rattle.cs_check.specs.Passing.Faults.{HasCases, HasGoal, HasExcluded, HasTotals}
use Rattle.cs_check.specs.Passing.Places.{IsNumbered, OfEnd, OfGoal, last_part, next_parts}
use Rattle.cs_check.specs.Checking.Cases.{PlainCase, PlainCases}
use Rattle.cs_check.specs.Checking.Excluded.{AreSetsIn}
use Rattle.cs_check.specs.Checking.Told.{sizes_of, rules_of, AreCounts, AreEntries}

-- ---- running numbers

-- the answer tells whether the line that is read has its running number
abbrev pub TellsNumbered : Entries → held.Line → Bool → Type 0
TellsNumbered e told so =
    (file : File) (lines : List Line) (l : Line) → AreEntries file lines e → Tells told l → IsTrue so ↔ IsNumbered lines l

-- ---- goal lines

-- the number of a goal's case as it is read, or 0
abbrev pub case_in : held_verdicts.Verdict → ℕ
case_in (verdicts.Feasible size case first) = case
case_in verdicts.Infeasible = 0
case_in verdicts.Large = 0

-- the sets exclude the goal, if it is called infeasible
abbrev pub IsExcludedIf : File → List Line → VerdictWords → Goal → Type 0
IsExcludedIf file lines Infeasible goal = IsExcluded file lines goal
IsExcludedIf file lines verdict goal = Unit {0}

-- the verdict of a goal is so, or has the fault
abbrev pub IsVerdictJudged : File → List Line → Goal → VerdictWords → Option ClaimFault → Type 0
IsVerdictJudged file lines goal verdict None =
    HasCases file.grammar lines verdict goal × IsExcludedIf file lines verdict goal
IsVerdictJudged file lines goal verdict (Some OfGoalFault) = HasCases file.grammar lines verdict goal → ⊥
IsVerdictJudged file lines goal verdict (Some OfInfeasible) =
    HasCases file.grammar lines verdict goal × (IsExcludedIf file lines verdict goal → ⊥)
IsVerdictJudged file lines goal verdict (Some f) = ⊥

-- the cases are those that lines have told
pub record AreCasesIn (file : File) (lines : List Line) (cases : PlainCases) : Type 0 where
  pub grammar : cases.grammar ≡ file.grammar
  pub rules : rules_of cases.list ≡ derivations lines
  pub sizes : case_sizes lines ≡ sizes_of cases.list
  pub small : All (λ (case : PlainCase). case.size < greatest) cases.list

-- a verdict is judged by cases and sets
abbrev pub JudgesVerdict : {E : Type 0} → File → PlainCases → Option PlainSets → Goal → held_verdicts.Verdict → Result (Option ClaimFault) E → Type 0
JudgesVerdict file cases sets goal told result =
    (lines : List Line) (verdict : VerdictWords) → AreCasesIn file lines cases → AreSetsIn file lines sets → TellsVerdict told verdict
    → IfOk result (IsVerdictJudged file lines goal verdict)

-- the new counts are those with a goal of this verdict more
abbrev pub CountsGoal : held_counts.Counts → held_verdicts.Verdict → held_counts.Counts → Type 0
CountsGoal old told new =
    (lines : List Line) (n : ℕ) (words : GoalWords) (verdict : VerdictWords) → AreCounts lines old → length lines < 2 ^ 32
    → TellsVerdict told verdict → AreCounts (lines ++ GoalLine n words verdict ∷ []) new

-- a goal line is right, and taken, or has the fault
abbrev pub IsGoalJudged : File → List Line → ℕ → GoalWords → VerdictWords → Entries → Option ClaimFault → Type 0
IsGoalJudged file lines n words verdict new None =
    HasGoal file lines (GoalLine n words verdict) × HasExcluded file lines (GoalLine n words verdict)
    × AreEntries file (lines ++ GoalLine n words verdict ∷ []) new
IsGoalJudged file lines n words verdict new (Some OfGoalFault) = HasGoal file lines (GoalLine n words verdict) → ⊥
IsGoalJudged file lines n words verdict new (Some OfInfeasible) =
    HasGoal file lines (GoalLine n words verdict) × (HasExcluded file lines (GoalLine n words verdict) → ⊥)
IsGoalJudged file lines n words verdict new (Some f) = ⊥

-- a goal line is judged, where it may come, by these sets
abbrev pub JudgesGoal : {E : Type 0} → File → Option PlainSets → Entries → held_goals.GoalWords → held_verdicts.Verdict → Entries → Result (Option ClaimFault) E → Type 0
JudgesGoal file sets old goal told new result =
    (lines : List Line) (n : ℕ) (words : GoalWords) (verdict : VerdictWords) → AreEntries file lines old → AreSetsIn file lines sets
    → Contains (next_parts (last_part lines)) OfGoal → length lines + 1 < 2 ^ 32
    → TellsGoal goal words → TellsVerdict told verdict
    → IfOk result (IsGoalJudged file lines n words verdict new)

-- ---- the end line

-- an end line is right, and changes nothing, or has the fault
abbrev pub IsEndJudged : File → List Line → Counts → Entries → Option ClaimFault → Type 0
IsEndJudged file lines counts e None =
    HasGoal file lines (EndLine counts) × HasTotals lines (EndLine counts) × AreEntries file (lines ++ EndLine counts ∷ []) e
IsEndJudged file lines counts e (Some OfGoalFault) = HasGoal file lines (EndLine counts) → ⊥
IsEndJudged file lines counts e (Some Totals) =
    HasGoal file lines (EndLine counts) × (HasTotals lines (EndLine counts) → ⊥)
IsEndJudged file lines counts e (Some f) = ⊥

-- an end line is judged, where it may come
abbrev pub JudgesEnd : Entries → held_counts.Counts → Option ClaimFault → Type 0
JudgesEnd e told result =
    (file : File) (lines : List Line) (counts : Counts) → AreEntries file lines e → Contains (next_parts (last_part lines)) OfEnd
    → length lines + 1 < 2 ^ 32 → TellsCounts told counts → IsEndJudged file lines counts e result
