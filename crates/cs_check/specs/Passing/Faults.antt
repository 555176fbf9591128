-- The faults of a line, by the lines above.
use Rattle.std.specs.Prelude.{◌≡◌, ◌+◌, ℕ, List, [], ◌∷◌, ◌++◌, length, map, count_by, Option, None, Some}
use Rattle.std.specs.List.{AllZip}
use Rattle.cs_grammar.specs.Grammar.{PlainGrammar}
use Rattle.cs_grammar.specs.Tree.{IsDerivationOf}
use Rattle.cs_grammar.specs.Sentence.{framed}
use Rattle.cs_grammar.specs.Weights.{Measure}
use Rattle.cs_goals.specs.declared.goal.Goal.{Goal}
use Rattle.cs_yacc.specs.Reading.File.{File}
use Rattle.cs_scanner.specs.Scan.Scan.{Scanning, Scans}
use Rattle.cs_check.specs.declared.passing.fault.ClaimFault.{ClaimFault}
use Rattle.cs_check.specs.declared.passing.fault.ClaimFault.TheVariants.{Form, Head, Unclosed, Derive, Size, Yield, Scan, Goal as OfGoal, Infeasible as OfInfeasible, Base, Edit, Pair, Totals}
use Rattle.cs_closed.specs.Closed.Sets.{PlainSets}
use Rattle.cs_closed.specs.Closed.Closed.{AreClosed}
use Rattle.cs_lines.specs.Words.Names.{token_of}
use Rattle.cs_lines.specs.Words.Edits.{FitsList}
use Rattle.cs_lines.specs.Lines.Line.{VerdictWords, Feasible, Infeasible, Counts, Line, TokensLine, DeriveLine, TextLine, GoalLine, BaseLine, NegativeLine, EndLine}
use Rattle.cs_lines.specs.Lines.Texts.{Says}
use Rattle.cs_check.specs.Passing.Above.{case_sizes, goals_in, verdicts, base_goals, edits, is_feasible, is_infeasible, is_large}
use Rattle.cs_check.specs.Passing.Head.{IsOfFile, AreClaimed, whole_head}
use Rattle.cs_check.specs.Passing.Places.{OfEnd, last_part, IsInHead, MayCome}
use Rattle.cs_check.specs.Passing.Goals.{IsDue, AreFinished}
use Rattle.cs_check.specs.Passing.Entries.{IsLast, IsMeasured, HasSize, IsShown, HasCase, IsBase, IsMade, AreTold, IsExcluded, IsKeptApart}

-- what is checked: a yacc file, and what a scanner scans by
pub record Checked : Type 0 where
  pub file : File
  pub scanning : Scanning

-- ---- what a line has to say, by the lines above

-- what stands in the head is the file's
abbrev pub HasHead : File → List Line → Line → Type 0
HasHead file above l = (h : IsInHead file.grammar above l) → IsOfFile file h.due l

-- the last closed line leaves closed sets
abbrev pub HasClosed : File → List Line → Line → Type 0
HasClosed file above l =
    IsInHead file.grammar above l → length above + 1 ≡ length (whole_head file.grammar)
    → (s : PlainSets) → AreClaimed file (above ++ l ∷ []) s → AreClosed file.grammar s

-- the derivation is one of the start symbol
abbrev pub HasDerivation : PlainGrammar → Line → Type 0
HasDerivation g (DeriveLine rules) = IsDerivationOf g rules
HasDerivation g l = Unit {0}

-- the size of the case is that of the tree
abbrev pub HasCaseSize : PlainGrammar → List Line → Line → Type 0
HasCaseSize g above (DeriveLine rules) =
    (w : Measure) × (size : ℕ) × IsMeasured above w × IsLast (case_sizes above) size × HasSize g w rules size
HasCaseSize g above l = Unit {0}

-- the tokens are those of the case or the negative
abbrev pub HasTokens : File → List Line → Line → Type 0
HasTokens file above (TokensLine names) = (tokens : List ℕ) × AreTold file above tokens × (names ≡ map (token_of file) tokens)
HasTokens file above l = Unit {0}

-- the text scans to them
abbrev pub HasScan : Checked → List Line → Line → Type 0
HasScan c above (TextLine text) = (tokens : List ℕ) × AreTold c.file above tokens × Scans c.scanning text tokens
HasScan c above l = Unit {0}

-- what is said of a feasible goal's cases is so
abbrev pub HasCases : PlainGrammar → List Line → VerdictWords → Goal → Type 0
HasCases g above (Feasible size case first) goal = IsShown g above goal size case first
HasCases g above verdict goal = Unit {0}

-- the goal is due; below the goals all are told
abbrev pub HasGoal : File → List Line → Line → Type 0
HasGoal file above (GoalLine n words verdict) =
    (goal : Goal) × IsDue file (goals_in above) words goal × HasCases file.grammar above verdict goal
HasGoal file above (BaseLine n goal) = AreFinished file.grammar (goals_in above)
HasGoal file above (EndLine counts) = AreFinished file.grammar (goals_in above)
HasGoal file above l = Unit {0}

-- the sets exclude a goal that is called infeasible
abbrev pub HasExcluded : File → List Line → Line → Type 0
HasExcluded file above (GoalLine n words Infeasible) =
    (goal : Goal) × IsDue file (goals_in above) words goal × IsExcluded file above goal
HasExcluded file above l = Unit {0}

-- a base's goal is a feasible one, and a negative's base is the last
abbrev pub HasBase : List Line → Line → Type 0
HasBase above (BaseLine n goal) = (case : ℕ) × HasCase above goal case
HasBase above (NegativeLine n base edit left right at) = base ≡ length (base_goals above)
HasBase above l = Unit {0}

-- the edit fits the base
abbrev pub HasEdit : File → List Line → Line → Type 0
HasEdit file above (NegativeLine n base edit left right at) = (w : List ℕ) × IsBase file.grammar above w × FitsList file w edit
HasEdit file above l = Unit {0}

-- the pair stands where it is said in the edited list, and its marks are kept apart
abbrev pub HasPair : File → List Line → Line → Type 0
HasPair file above (NegativeLine n base edit left right at) =
    (tokens : List ℕ) × IsMade file above edit tokens × IsKeptApart file above (framed tokens) at left right
HasPair file above l = Unit {0}

-- what the lines above count
abbrev pub counted : List Line → Counts
counted above = record {
  goals = length (verdicts above);
  feasible = count_by is_feasible (verdicts above);
  infeasible = count_by is_infeasible (verdicts above);
  large = count_by is_large (verdicts above);
  negatives = length (edits above);
  cases = length (case_sizes above);
}

abbrev pub HasTotals : List Line → Line → Type 0
HasTotals above (EndLine counts) = counts ≡ counted above
HasTotals above l = Unit {0}

-- ---- faults

-- what a line has that lacks this fault
abbrev pub Has : Checked → ClaimFault → List Line → Line → Type 0
Has c Form above l = MayCome c.file.grammar above l
Has c Head above l = HasHead c.file above l
Has c Unclosed above l = HasClosed c.file above l
Has c Derive above l = HasDerivation c.file.grammar l
Has c Size above l = HasCaseSize c.file.grammar above l
Has c Yield above l = HasTokens c.file above l
Has c Scan above l = HasScan c above l
Has c OfGoal above l = HasGoal c.file above l
Has c OfInfeasible above l = HasExcluded c.file above l
Has c Base above l = HasBase above l
Has c Edit above l = HasEdit c.file above l
Has c Pair above l = HasPair c.file above l
Has c Totals above l = HasTotals above l

-- the line, or the end of the text, is this one
abbrev pub IsSaid : Option (List ℕ) → Line → Type 0
IsSaid None l = ⊥
IsSaid (Some bytes) l = Says bytes l

-- they are these lines
abbrev pub AreSaid : List (Option (List ℕ)) → List Line → Type 0
AreSaid texts lines = AllZip IsSaid texts lines

-- a line has what it lacks who has the fault Form: it is one that may stand there, or the text ends behind its end line
abbrev pub HasForm : PlainGrammar → List (Option (List ℕ)) → Option (List ℕ) → Type 0
HasForm g above None = (lines : List Line) × AreSaid above lines × (last_part lines ≡ OfEnd)
HasForm g above (Some text) = (lines : List Line) × (l : Line) × AreSaid above lines × Says text l × MayCome g lines l

-- the fault, of a line that is told apart from others by its form
abbrev pub HasFault : Checked → List (Option (List ℕ)) → Option (List ℕ) → ClaimFault → Type 0
HasFault c above text Form = HasForm c.file.grammar above text → ⊥
HasFault c above text f = (lines : List Line) × (l : Line) × AreSaid above lines × IsSaid text l × (Has c f lines l → ⊥)
