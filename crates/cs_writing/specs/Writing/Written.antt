-- What was written of a manifest. Working words of proofs.
use Rattle.std.specs.Prelude.{◌≡◌, ◌≤◌, ℕ, ◌+◌, List, IfSome, Result, count_by, if◌then◌else◌, length, option_map}
use Rattle.cs_writing.specs.Bases.Bases.{PlainBases, bases_of}
use Rattle.cs_verdicts.specs.Cases.Cases.{PlainCases, no_cases}
use Rattle.cs_grammar.specs.Weights.{Weighed}
use Rattle.cs_goals.specs.Goals.{goals}
use Rattle.cs_io.specs.Faults.{greatest}
use Rattle.cs_io.specs.declared.sink.Sink as Sink
use Rattle.cs_io.specs.declared.sink.SinkError.{SinkError}
use Rattle.cs_manifest.specs.Output.Putting.{shown}
use Rattle.cs_io.specs.Lines.{Writes}
use Rattle.cs_manifest.specs.Output.Words.{numbered_from}
use Rattle.cs_manifest.specs.declared.manifest.counts.Counts.{Counts}
use Rattle.cs_choices.specs.declared.format.Format.{Format}
use Rattle.cs_choices.specs.declared.format.Format.TheVariants.{One, Two}
use Rattle.cs_manifest.specs.Manifest.Counts.{first_counts, with_case, with_lines, with_verdict}
use Rattle.cs_manifest.specs.Manifest.Head.{first_cases}
use Rattle.cs_manifest.specs.Manifest.Lines.{is_feasible, is_infeasible, is_large}
use Rattle.cs_manifest.specs.Manifest.Manifest.{AreShared, EntriesOf, GoalEntry, SharedEntry, goal_entry_lines, goal_texts, most_bases, shared_entry_lines}
use Rattle.cs_manifest.specs.Writer.Progress.{Progress}
use Rattle.cs_verdicts.specs.Positive.Positives.{ToJudge}
use Rattle.cs_yacc.specs.Reading.File.{File}
use Rattle.cs_writing.specs.declared.plan.plan.Plan.{Plan}
use Rattle.cs_writing.specs.Plan.Made.{MadeEntry, case_lines_in, entries_of, goal_lines_in, has_new_case, made_lines, new_cases}
use Rattle.cs_writing.specs.Plan.Plans.{IsOfPlan, IsPlan, choice_in, format_by, lexemes_in, sharing_in, texts_in}

-- ---- the lines of goals

-- the entries of all goals of a plan
abbrev pub AreEntriesIn : Plan → Weighed → List GoalEntry → Type 0
AreEntriesIn plan of entries = EntriesOf of (goal_texts (choice_in plan)) (lexemes_in plan) (goals of.grammar plan.criteria) entries

-- the lines of entries in the first format, of which the first has this number
abbrev pub lines_from : File → ℕ → List GoalEntry → List ℕ
lines_from file number entries = numbered_from number (goal_entry_lines file) entries

-- and in the second
abbrev pub shared_lines_from : File → ℕ → List SharedEntry → List ℕ
shared_lines_from file number list = numbered_from number (shared_entry_lines file) list

-- those of what is made of goals, in either
abbrev pub made_lines_from : File → ℕ → List MadeEntry → List ℕ
made_lines_from file number list = numbered_from number (made_lines file) list

-- these are the lines of entries in the second format, from the cases before them to those behind them
pub record AreSharedLines (plan : Plan) (number : ℕ) (before : PlainCases) (entries : List GoalEntry) (after : PlainCases) (lines : List ℕ) : Type 0 where
  pub list : List SharedEntry
  pub are : AreShared (texts_in plan) (lexemes_in plan) before entries after list
  pub whole : lines ≡ shared_lines_from plan.yacc.now number list

-- the same in any format; the first has no cases
abbrev pub AreLinesOf : Format → Plan → ℕ → PlainCases → List GoalEntry → PlainCases → List ℕ → Type 0
AreLinesOf One plan number before entries after lines = (lines ≡ lines_from plan.yacc.now number entries) × (after ≡ before)
AreLinesOf Two plan number before entries after lines = AreSharedLines plan number before entries after lines

-- in the plan's format
abbrev pub AreLinesIn : Plan → ℕ → PlainCases → List GoalEntry → PlainCases → List ℕ → Type 0
AreLinesIn plan number before entries after lines = AreLinesOf (format_by plan.form) plan number before entries after lines

-- the entries of all goals of a plan, the cases behind them, and their lines
pub record AreGoals (plan : Plan) (of : Weighed) (entries : List GoalEntry) (cases : PlainCases) (lines : List ℕ) : Type 0 where
  pub all : AreEntriesIn plan of entries
  pub told : AreLinesIn plan 1 (no_cases plan.yacc.now.grammar) entries cases lines

-- the text is the lines of the entries of all goals of a plan
pub record IsGoalsText (plan : Plan) (left : ToJudge) (text : List ℕ) : Type 0 where
  pub entries : List GoalEntry
  pub cases : PlainCases
  pub are : AreGoals plan left.tables entries cases text

-- whichever the entries are, these are their bases
abbrev pub AreBasesOf : Plan → ToJudge → PlainBases → Type 0
AreBasesOf plan left kept =
    (entries : List GoalEntry) → AreEntriesIn plan left.tables entries → kept ≡ bases_of (most_bases (choice_in plan)) entries

-- ---- how goals are counted

-- nothing was counted but the bytes of the head
abbrev pub IsFresh : Plan → Counts → Type 0
IsFresh plan counts = counts ≡ record (first_counts counts.bytes) { cases = first_cases (sharing_in plan) }

-- The entries of all goals can be written: these are the goals of the plan, and nothing but the head was written.
pub record IsReady (plan : Plan) (left : ToJudge) (manifest : Progress) : Type 0 where
  pub plan_is : IsPlan plan
  pub grammar : IsOfPlan plan left
  pub all : left.goals ≡ goals left.tables.grammar plan.criteria
  pub file : manifest.file ≡ plan.yacc.now
  pub fresh : IsFresh plan manifest.counts

-- no count of goals or cases is above this number
pub record AreWithin (most : ℕ) (counts : Counts) : Type 0 where
  pub goals : counts.goals ≤ most
  pub feasible : counts.feasible ≤ most
  pub infeasible : counts.infeasible ≤ most
  pub large : counts.large ≤ most
  pub cases : IfSome counts.cases (λ n. n ≤ most)

-- these entries and their lines were counted, and so many new cases, where cases are counted
pub record AreCounted (entries : List GoalEntry) (new : ℕ) (lines : List ℕ) (before after : Counts) : Type 0 where
  pub goals : after.goals ≡ before.goals + length entries
  pub feasible : after.feasible ≡ before.feasible + count_by (λ e. is_feasible e.verdict) entries
  pub infeasible : after.infeasible ≡ before.infeasible + count_by (λ e. is_infeasible e.verdict) entries
  pub large : after.large ≡ before.large + count_by (λ e. is_large e.verdict) entries
  pub negatives : after.negatives ≡ before.negatives
  pub cases : after.cases ≡ option_map (λ n. n + new) before.cases
  pub bytes : shown after.bytes ≡ shown (before.bytes + length lines)

-- whichever the entries are, they were counted
abbrev pub CountsGoals : Plan → ToJudge → Progress → Progress → Type 0
CountsGoals plan left old new =
    (entries : List GoalEntry) (cases : PlainCases) (lines : List ℕ) → AreGoals plan left.tables entries cases lines
    → AreCounted entries (length cases.codes) lines old.counts new.counts

-- the entries of all goals were counted, and these are their bases
pub record TellsGoals (plan : Plan) (left : ToJudge) (old new : Progress) (kept : PlainBases) : Type 0 where
  pub file : new.file ≡ plan.yacc.now
  pub counted : CountsGoals plan left old new
  pub bases : AreBasesOf plan left kept

-- so many entries more have numbers and can be counted, behind so many
pub record HasNumbers (number many : ℕ) (counts : Counts) : Type 0 where
  pub within : AreWithin number counts
  pub few : number + many ≤ greatest

-- these entries, so many new cases and these lines were counted behind so many entries
pub record TellsMore (many : ℕ) (entries : List GoalEntry) (new : ℕ) (lines : List ℕ) (next : ℕ) (before after : Progress) : Type 0 where
  pub file : after.file ≡ before.file
  pub number : next ≡ many + length entries
  pub counted : AreCounted entries new lines before.counts after.counts

-- a batch of entries was counted
abbrev pub TellsBatch : ℕ → List MadeEntry → ℕ → Progress → Progress → Type 0
TellsBatch number batch next old new =
    TellsMore number (entries_of batch) (new_cases batch) (made_lines_from old.file (number + 1) batch) next old new

-- behind the case of an entry, where that is new
abbrev pub behind_case : File → Counts → MadeEntry → Counts
behind_case file counts m = if has_new_case m.shared then with_lines (with_case counts) (case_lines_in file m m.shared) else counts

-- behind the entry
abbrev pub behind_made : File → ℕ → Counts → MadeEntry → Counts
behind_made file number counts m =
    with_lines (with_verdict (behind_case file counts m) m.verdict) (goal_lines_in file number m m.shared)

-- an entry with its number was counted, and the case of an entry, where that is new
abbrev pub CountsEntry : ℕ → MadeEntry → Progress → Progress → Type 0
CountsEntry number m old new = new.counts ≡ behind_made old.file number old.counts m

abbrev pub CountsCase : MadeEntry → Progress → Progress → Type 0
CountsCase m old new = new.counts ≡ behind_case old.file old.counts m

-- ---- lines that were written

module _ {S : Type 0} (g : Sink.Ghosts S) where
  -- the lines of a batch of entries were written behind so many, or cut short
  abbrev pub PutsBatch : Progress → ℕ → List MadeEntry → S → S → Result Unit SinkError → Type 0
  PutsBatch manifest number batch old new result = Writes g result (made_lines_from manifest.file (number + 1) batch) old new

  -- the lines of one entry, and those of its case
  abbrev pub PutsEntry : Progress → ℕ → MadeEntry → S → S → Result Unit SinkError → Type 0
  PutsEntry manifest number m old new result = Writes g result (made_lines manifest.file number m) old new

  abbrev pub PutsCase : Progress → MadeEntry → S → S → Result Unit SinkError → Type 0
  PutsCase manifest m old new result = Writes g result (case_lines_in manifest.file m m.shared) old new
