-- What is made of a goal, and what its entries in a manifest say.
use Rattle.std.specs.Prelude.{◌≡◌, ℕ, Bool, true, false, List, [], ◌++◌, map, count_by, Option, None, Some, IsSome, option_map}
use Rattle.cs_goals.specs.declared.goal.Goal.{Goal}
use Rattle.cs_manifest.specs.Output.Names.{AreNamedTokens}
use Rattle.cs_manifest.specs.declared.manifest.counts.Counts.{Counts}
use Rattle.cs_manifest.specs.declared.writer.entry.Entry.{Entry}
use Rattle.cs_manifest.specs.declared.manifest.verdict.SharedVerdict.{SharedVerdict}
use Rattle.cs_manifest.specs.declared.manifest.verdict.SharedVerdict.TheVariants as shared
use Rattle.cs_manifest.specs.Writer.Progress.{with_entry}
use Rattle.cs_manifest.specs.Manifest.Counts.{with_case, with_verdict}
use Rattle.cs_manifest.specs.Writer.Entry.{IsNamedEntry, lines_of}
use Rattle.cs_manifest.specs.Manifest.Lines.{goal_lines, is_feasible}
use Rattle.cs_manifest.specs.Manifest.Manifest.{GoalEntry, case_lines_by, is_new}
use Rattle.cs_manifest.specs.Manifest.SharedLines.{shared_goal_line}
use Rattle.cs_manifest.specs.Manifest.Named.{AreNamedRenderings, IsNamedGoal}
use Rattle.cs_verdicts.specs.declared.positive.verdict.Verdict.{Verdict}
use Rattle.cs_verdicts.specs.declared.positive.verdict.Verdict.TheVariants.{Feasible, Infeasible, Large}
use Rattle.cs_texts.specs.declared.rendering.rendered.Rendered.{Rendered}
use Rattle.cs_texts.specs.Rendering.Rendering.{Rendering, rendering}
use Rattle.cs_yacc.specs.Reading.File.{File}
use Rattle.cs_writing.specs.declared.plan.placing.Placed.{Placed}

-- a goal, its verdict, in the second format its verdict there, the tokens of its derivation, and what came of their rendering
pub record MadeEntry : Type 0 where
  pub goal : Goal
  pub verdict : Verdict
  pub shared : Option SharedVerdict
  pub tokens : List ℕ
  pub rendered : Option Rendering

-- the goal's derivation is a new case, which the first format doesn't have
abbrev pub has_new_case : Option SharedVerdict → Bool
has_new_case None = false
has_new_case (Some verdict) = is_new verdict

-- the tokens are rendered: in the first format those of a feasible goal, and in the second those of a new case
abbrev pub is_asked : Verdict → Option SharedVerdict → Bool
is_asked verdict None = is_feasible verdict
is_asked verdict (Some other) = is_new other

-- ---- its entry

-- in the second format cases have texts, and goals have none
abbrev pub own_text : Option SharedVerdict → Option Rendering → Option Rendering
own_text None rendered = rendered
own_text (Some verdict) rendered = None

abbrev pub entry_of : MadeEntry → GoalEntry
entry_of m = record { goal = m.goal; verdict = m.verdict; tokens = m.tokens; rendered = own_text m.shared m.rendered }

abbrev pub entries_of : List MadeEntry → List GoalEntry
entries_of list = map entry_of list

-- how many of the cases are new
abbrev pub new_cases : List MadeEntry → ℕ
new_cases list = count_by (λ m. has_new_case m.shared) list

-- ---- its lines

-- those of its case, where that is new
abbrev pub case_lines_in : File → MadeEntry → Option SharedVerdict → List ℕ
case_lines_in file m None = []
case_lines_in file m (Some verdict) = case_lines_by file (entry_of m) m.rendered verdict

-- those of the goal, by its number
abbrev pub goal_lines_in : File → ℕ → MadeEntry → Option SharedVerdict → List ℕ
goal_lines_in file number m None = goal_lines file number m.goal m.verdict m.tokens m.rendered
goal_lines_in file number m (Some verdict) = shared_goal_line file number m.goal verdict

-- both
abbrev pub made_lines : File → ℕ → MadeEntry → List ℕ
made_lines file number m = case_lines_in file m m.shared ++ goal_lines_in file number m m.shared

-- an entry of a manifest has the lines of the case
abbrev pub HasCaseLines : MadeEntry → Entry → Type 0
HasCaseLines m entry = (file : File) → lines_of file entry ≡ case_lines_in file m m.shared

-- there is no such line
abbrev pub HasNoCaseLines : MadeEntry → Type 0
HasNoCaseLines m = (file : File) → case_lines_in file m m.shared ≡ []

-- an entry has those of the goal, by its number
abbrev pub HasGoalLines : MadeEntry → ℕ → Entry → Type 0
HasGoalLines m number entry = (file : File) → lines_of file entry ≡ goal_lines_in file number m m.shared

-- the numbers of its tokens have names
pub record IsNamedMade (file : File) (m : MadeEntry) : Type 0 where
  pub goal : IsNamedGoal file m.goal
  pub tokens : AreNamedTokens file m.tokens
  pub text : AreNamedRenderings file m.rendered

-- the entry's tokens have names where those have
abbrev pub HasItsNames : MadeEntry → Entry → Type 0
HasItsNames m entry = (file : File) → IsNamedMade file m → IsNamedEntry file entry

-- it is counted by the goal's verdict
abbrev pub CountsByVerdict : Verdict → Entry → Type 0
CountsByVerdict verdict entry = (c : Counts) → with_entry c entry ≡ with_verdict c verdict

-- it is counted as a case
abbrev pub CountsCase : Entry → Type 0
CountsCase entry = (c : Counts) → with_entry c entry ≡ with_case c

-- ---- as it is kept

-- a goal that was placed, with what came of rendering its tokens
abbrev pub made_of : Placed → Option Rendered → MadeEntry
made_of p rendered = record {
  goal = p.goal;
  verdict = p.verdict;
  shared = p.shared;
  tokens = p.tokens.items;
  rendered = option_map rendering rendered;
}

-- both verdicts are of one kind
abbrev pub AreOfOneKind : Verdict → SharedVerdict → Type 0
AreOfOneKind (Feasible size derivation) (shared.Feasible other named) = Unit {0}
AreOfOneKind Infeasible shared.Infeasible = Unit {0}
AreOfOneKind Large shared.Large = Unit {0}
AreOfOneKind verdict other = ⊥

-- a rendering is there exactly where that is so
abbrev pub IsThereIf : Bool → Option Rendered → Type 0
IsThereIf true rendered = IsSome rendered
IsThereIf false rendered = rendered ≡ None

-- in the second format both verdicts are of one kind, and a rendering is there exactly where the derivation is a new case
abbrev pub HasItsCase : Verdict → Option SharedVerdict → Option Rendered → Type 0
HasItsCase verdict None rendered = Unit {0}
HasItsCase verdict (Some other) rendered = AreOfOneKind verdict other × IsThereIf (is_new other) rendered
