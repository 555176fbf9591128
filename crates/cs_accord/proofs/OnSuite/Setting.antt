-- What a suite is of and what it holds, with what is known of both: the lemmas on suites take these.
use Rattle.std.proofs.Common.{◌≡◌, List, [], Some, map, length}
use Rattle.std.specs.List.{AllByRecursion}
use Rattle.cs_grammar.specs.Weights.{Measure}
use Rattle.cs_goals.specs.declared.goal.Goal.{Goal}
use Rattle.cs_goals.specs.Goal.{IsGoal}
use Rattle.cs_goals.specs.Goals.{goals}
use Rattle.cs_pattern_parts.specs.Items.StandsFor.{AreBytes}
use Rattle.cs_scanner.specs.Lexeme.Lexeme.{AreLexemes}
use Rattle.cs_verdicts.specs.Positive.Verdict.{IsVerdict}
use Rattle.cs_verdicts.specs.Cases.Cases.{PlainCases, no_cases}
use Rattle.cs_verdicts.specs.Closed.Closed.{AreClosedSets, ClosedSets}
use Rattle.cs_yacc.specs.Reading.File.{File}
use Rattle.cs_manifest.specs.Manifest.Manifest.{AreShared, AreTokensOf, BaseEntry, BasesOf, Choice, GoalEntry, LexemeList, SharedEntry, Texts, bases, measure_of, most_bases}
use Rattle.cs_lines.specs.Lines.Line.{Counts, VerdictWords}
use Rattle.cs_check.specs.Passing.Entries.{measured}
use Rattle.cs_check.specs.Passing.Faults.{Checked}
use Rattle.cs_accord.specs.Accord.{checked}
use Rattle.cs_accord.specs.Named.{IsNamedFile}
use Rattle.cs_accord.specs.Suite.{counts_of, verdict_of}

-- what a suite is of: the file, the choice with its texts, the tokens' lexemes, and the closed sets
pub record Setting : Type 0 where
  pub file : File
  pub choice : Choice
  pub texts : Texts
  pub lexemes : LexemeList
  pub closed : ClosedSets

-- they belong together
pub record IsSetting (s : Setting) : Type 0 where
  pub named : IsNamedFile s.file
  pub texts_are : s.choice.texts ≡ Some s.texts
  pub separator : AreBytes s.texts.separator
  pub lexemes : AreLexemes s.texts.scanning s.file.grammar.tokens s.lexemes
  pub closed : AreClosedSets s.file.grammar s.closed

-- what its suite is checked by
abbrev pub by : Setting → Checked
by s = checked s.file s.texts

-- how the suite measures trees, and how its lines tell that they are measured
abbrev pub measure : Setting → Measure
measure s = measure_of s.choice.weigh s.file.grammar.tokens (Some s.lexemes)

abbrev pub told_measure : Setting → Measure
told_measure s = measured s.choice.weigh s.lexemes

-- what a suite holds: the goals' entries, the cases, the entries with those, and the bases
pub record Body : Type 0 where
  pub entries : List GoalEntry
  pub cases : PlainCases
  pub list : List SharedEntry
  pub mutants : List BaseEntry

abbrev pub goals_of : List GoalEntry → List Goal
goals_of entries = map (λ (e : GoalEntry). e.goal) entries

abbrev pub words_told : List SharedEntry → List VerdictWords
words_told list = map (λ (s : SharedEntry). verdict_of s.verdict) list

abbrev pub counts_in : Body → Counts
counts_in b = counts_of b.entries b.mutants (length b.cases.codes)

-- an entry of a goal of the grammar, with its verdict and the tokens of its derivation
pub record IsKnownEntry (s : Setting) (e : GoalEntry) : Type 0 where
  pub is_goal : IsGoal s.file.grammar e.goal
  pub verdict : IsVerdict (measure s) s.file.grammar e.goal e.verdict
  pub tokens : AreTokensOf s.file.grammar e.verdict e.tokens

-- the suite of the setting holds it
pub record IsBody (s : Setting) (b : Body) : Type 0 where
  pub goals_are : goals s.file.grammar s.choice.criteria ≡ goals_of b.entries
  pub known : AllByRecursion (IsKnownEntry s) b.entries
  pub shared : AreShared (Some s.texts) (Some s.lexemes) (no_cases s.file.grammar) b.entries b.cases b.list
  pub bases_are : BasesOf s.file.grammar s.choice (Some s.lexemes) [] (bases (most_bases s.choice) b.entries) b.mutants
