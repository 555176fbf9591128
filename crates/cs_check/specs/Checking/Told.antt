-- What the lines behind the head have told. Working words of the code's contracts.
use Rattle.std.specs.Prelude.{◌≡◌, ◌↔◌, ◌<◌, ◌≤◌, ◌+◌, ◌^◌, Bool, IfOk, IsTrue, Result, ℕ, List, [], ◌∷◌, ◌++◌, Option, Some, None, length, map, count_by, All}
use Rattle.std.specs.List.{AllZip, Contains}
use Rattle.cs_grammar.specs.Grammar.{PlainGrammar}
use Rattle.cs_grammar.specs.Weights.{Measure}
use Rattle.cs_yacc.specs.Reading.File.{File}
use Rattle.cs_check.specs.declared.checking.entries.Entries.{Entries}
use Rattle.cs_check.specs.declared.passing.fault.ClaimFault.{ClaimFault}
use Rattle.cs_check.specs.declared.passing.fault.ClaimFault.TheVariants.{Derive, Size}
use Rattle.cs_lines.specs.declared.lines.line.Counts as held
use Rattle.cs_lines.specs.Lines.Line.{VerdictWords, Feasible, Infeasible, Large, Line, CaseLine, DeriveLine, TokensLine}
use Rattle.cs_lines.specs.Lines.Numbers.{IsRead, greatest}
use Rattle.cs_check.specs.Passing.Above.{case_sizes, derivations, goals_in, verdicts, base_goals, edits, is_feasible, is_infeasible, is_large}
use Rattle.cs_check.specs.Passing.Places.{Part, OfCase, OfDerivation, OfCaseTokens, OfBase, OfNegative, OfNegativeTokens, OfNegativeText, last_part, next_parts, tokens_part}
use Rattle.cs_check.specs.Passing.Entries.{IsCase, IsNegative, IsBase, IsMeasured}
use Rattle.cs_check.specs.Passing.DueGoals.{KnowsGoals}
pub use Rattle.cs_check.specs.Passing.Outcomes.{checked_by}
use Rattle.cs_check.specs.Passing.Faults.{HasDerivation, HasCaseSize, HasTokens}
use Rattle.cs_check.specs.Checking.Cases.{PlainCase}

abbrev pub sizes_of : List PlainCase → List ℕ
sizes_of cases = map (λ (case : PlainCase). case.size) cases

abbrev pub rules_of : List PlainCase → List (List ℕ)
rules_of cases = map (λ (case : PlainCase). case.rules) cases

-- the cases have these sizes; behind a case line there is one more, which is read as this number
abbrev pub AreSized : Part → List ℕ → List PlainCase → ℕ → Type 0
AreSized OfCase sizes cases read = (size : ℕ) × (sizes ≡ sizes_of cases ++ size ∷ []) × IsRead size read
AreSized part sizes cases read = sizes ≡ sizes_of cases

-- the number of a goal's case, or 0
abbrev pub IsCaseOf : VerdictWords → ℕ → Type 0
IsCaseOf (Feasible size case first) number = (number ≡ case) × (0 < case)
IsCaseOf Infeasible number = number ≡ 0
IsCaseOf Large number = number ≡ 0

-- the tokens of which the line below tells
abbrev pub HasTold : File → List Line → Part → List ℕ → Type 0
HasTold file lines OfDerivation tokens = IsCase file.grammar lines tokens
HasTold file lines OfCaseTokens tokens = IsCase file.grammar lines tokens
HasTold file lines OfNegative tokens = IsNegative file lines tokens
HasTold file lines OfNegativeTokens tokens = IsNegative file lines tokens
HasTold file lines part tokens = Unit {0}

-- the tokens of the last base
abbrev pub HasBase : PlainGrammar → List Line → Part → List ℕ → Type 0
HasBase g lines OfBase tokens = IsBase g lines tokens
HasBase g lines OfNegative tokens = IsBase g lines tokens
HasBase g lines OfNegativeTokens tokens = IsBase g lines tokens
HasBase g lines OfNegativeText tokens = IsBase g lines tokens
HasBase g lines part tokens = Unit {0}

-- the counts of the lines
pub record AreCounts (lines : List Line) (counts : held.Counts) : Type 0 where
  pub goals : counts.goals ≡ length (goals_in lines)
  pub feasible : counts.feasible ≡ count_by is_feasible (verdicts lines)
  pub infeasible : counts.infeasible ≡ count_by is_infeasible (verdicts lines)
  pub large : counts.large ≡ count_by is_large (verdicts lines)
  pub negatives : counts.negatives ≡ length (edits lines)
  pub cases : counts.cases ≡ length (case_sizes lines)

pub record AreEntries (file : File) (lines : List Line) (e : Entries) : Type 0 where
  pub few : length lines < 2 ^ 32
  pub grammar : e.cases.grammar ≡ file.grammar
  pub rules : rules_of e.cases.list ≡ derivations lines
  pub sizes : AreSized (last_part lines) (case_sizes lines) e.cases.list e.size
  pub small : All (λ (case : PlainCase). case.size < greatest) e.cases.list
  pub verdicts : AllZip IsCaseOf (verdicts lines) e.goal_cases.items
  pub shown : All (λ (number : ℕ). number ≤ length e.cases.list) e.goal_cases.items
  pub due : KnowsGoals file.grammar (goals_in lines) e.due
  pub told : HasTold file lines (last_part lines) e.tokens.items
  pub bases : e.bases ≡ length (base_goals lines)
  pub base : HasBase file.grammar lines (last_part lines) e.base.items
  pub counts : AreCounts lines e.counts

-- a derive line is right, and taken, or has the fault
abbrev pub IsDerivationJudged : File → List Line → List ℕ → Entries → Option ClaimFault → Type 0
IsDerivationJudged file lines rules new None =
    HasDerivation file.grammar (DeriveLine rules) × HasCaseSize file.grammar lines (DeriveLine rules)
    × AreEntries file (lines ++ DeriveLine rules ∷ []) new
IsDerivationJudged file lines rules new (Some Derive) = HasDerivation file.grammar (DeriveLine rules) → ⊥
IsDerivationJudged file lines rules new (Some Size) =
    HasDerivation file.grammar (DeriveLine rules) × (HasCaseSize file.grammar lines (DeriveLine rules) → ⊥)
IsDerivationJudged file lines rules new (Some f) = ⊥

-- a case line is taken, where it may come
abbrev pub TakesCase : Entries → ℕ → Entries → Type 0
TakesCase old size new =
    (file : File) (lines : List Line) (n s : ℕ) → AreEntries file lines old → Contains (next_parts (last_part lines)) OfCase
    → IsRead s size → length lines + 1 < 2 ^ 32 → AreEntries file (lines ++ CaseLine n s ∷ []) new

-- the answer tells whether names are those of a tokens line, where it may come
abbrev pub TellsTokens : File → Entries → List (List ℕ) → Bool → Type 0
TellsTokens file e names so =
    (lines : List Line) → AreEntries file lines e → Contains (next_parts (last_part lines)) (tokens_part (last_part lines))
    → IsTrue so ↔ HasTokens file lines (TokensLine names)

-- a derive line is judged, where it may come, by these numbers of tokens
abbrev pub JudgesDerivation : {E : Type 0} → Entries → List ℕ → List ℕ → Entries → Result (Option ClaimFault) E → Type 0
JudgesDerivation old numbers rules new result =
    (file : File) (lines : List Line) (w : Measure) → AreEntries file lines old
    → Contains (next_parts (last_part lines)) OfDerivation → length lines + 1 < 2 ^ 32
    → IsMeasured lines w → w.numbers ≡ numbers → All (λ n. n ≤ 1000000) w.numbers
    → IfOk result (IsDerivationJudged file lines rules new)
