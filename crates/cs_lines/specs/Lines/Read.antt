-- What the code's lines tell of the lines that are said.
use Rattle.std.specs.Prelude.{◌≡◌, ℕ, List, ◌∷◌, map, Option, Some, None, MatchOption}
use Rattle.cs_bytes.specs.Digits.{number_of}
use Rattle.cs_lines.specs.declared.lines.names.Names.{Names}
use Rattle.cs_lines.specs.declared.lines.numbers.Numbers.{Numbers}
use Rattle.cs_lines.specs.declared.lines.quoted.Quoted.{Quoted}
use Rattle.cs_lines.specs.declared.lines.line.SetKind as held_sets
use Rattle.cs_lines.specs.declared.lines.line.SetKind.TheVariants as sets
use Rattle.cs_lines.specs.declared.lines.line.RowKind as held_rows
use Rattle.cs_lines.specs.declared.lines.line.RowKind.TheVariants as rows
use Rattle.cs_lines.specs.declared.lines.line.GoalWords as held_goals
use Rattle.cs_lines.specs.declared.lines.line.GoalWords.TheVariants as goals
use Rattle.cs_lines.specs.declared.lines.line.Verdict as held_verdicts
use Rattle.cs_lines.specs.declared.lines.line.Verdict.TheVariants as verdicts
use Rattle.cs_lines.specs.declared.lines.line.EditWords as held_edits
use Rattle.cs_lines.specs.declared.lines.line.EditWords.TheVariants as edits
use Rattle.cs_lines.specs.declared.lines.line.Counts as held_counts
use Rattle.cs_lines.specs.declared.lines.line.Line as held
use Rattle.cs_lines.specs.declared.lines.line.Line.TheVariants as lines
use Rattle.cs_lines.specs.Words.Words.{line}
use Rattle.cs_lines.specs.Words.Edits.{EditWords, Deletes, Inserts, Replaces, Swaps}
use Rattle.cs_lines.specs.Lines.Splits.{words_behind}
use Rattle.cs_lines.specs.Lines.Line.{SetKind, Productive, Reachable, Empty, RowKind, First, Last, Next, GoalWords, OfRule, OfContext, OfPair, VerdictWords, Feasible, Infeasible, Large, Counts, Line, Opening, Weighing, TokenLine, RuleLine, LexemeLine, SetLine, RowLine, CaseLine, DeriveLine, TokensLine, TextLine, NoLexemeLine, NoScanLine, GoalLine, BaseLine, NegativeLine, EndLine}
use Rattle.cs_lines.specs.Lines.Numbers.{IsRead}
use Rattle.cs_lines.specs.Lines.Spelled.{Spells}
use Rattle.cs_lines.specs.Lines.Texts.{joined, Says}

-- the names that are still to be given, and the numbers
abbrev pub names_in : Names → List (List ℕ)
names_in names = words_behind names.words.rest.now

abbrev pub numbers_in : Numbers → List ℕ
numbers_in numbers = map (number_of 10) (words_behind numbers.words.rest.now)

-- one is given
abbrev pub GivesName : Names → Names → List ℕ → Type 0
GivesName before after name = names_in before ≡ name ∷ names_in after

abbrev pub GivesNumber : Numbers → Numbers → ℕ → Type 0
GivesNumber before after read = (n : ℕ) × IsRead n read × (numbers_in before ≡ n ∷ numbers_in after)

-- this text is spelled
abbrev pub IsText : Quoted → List ℕ → Type 0
IsText quoted text = Spells quoted.spelled.now text

abbrev pub set_kind : held_sets.SetKind → SetKind
set_kind sets.Productive = Productive
set_kind sets.Reachable = Reachable
set_kind sets.Empty = Empty

abbrev pub row_kind : held_rows.RowKind → RowKind
row_kind rows.First = First
row_kind rows.Last = Last
row_kind rows.Next = Next

abbrev pub TellsGoal : held_goals.GoalWords → GoalWords → Type 0
TellsGoal (goals.Rule r) (OfRule rule) = IsRead rule r
TellsGoal (goals.Context p i q) (OfContext outer place inner) = IsRead outer p × IsRead place i × IsRead inner q
TellsGoal (goals.Pair a b) (OfPair left right) = (a.now ≡ left) × (b.now ≡ right)
TellsGoal goal words = ⊥

abbrev pub TellsVerdict : held_verdicts.Verdict → VerdictWords → Type 0
TellsVerdict (verdicts.Feasible s c f) (Feasible size case first) = IsRead size s × IsRead case c × IsRead first f
TellsVerdict verdicts.Infeasible Infeasible = Unit {0}
TellsVerdict verdicts.Large Large = Unit {0}
TellsVerdict verdict words = ⊥

abbrev pub TellsEdit : held_edits.EditWords → EditWords → Type 0
TellsEdit (edits.Delete i) (Deletes place) = IsRead place i
TellsEdit (edits.Insert i a) (Inserts place name) = IsRead place i × (a.now ≡ name)
TellsEdit (edits.Replace i a) (Replaces place name) = IsRead place i × (a.now ≡ name)
TellsEdit (edits.Swap i) (Swaps place) = IsRead place i
TellsEdit edit words = ⊥

pub record TellsCounts (told : held_counts.Counts) (counts : Counts) : Type 0 where
  pub goals : IsRead counts.goals told.goals
  pub feasible : IsRead counts.feasible told.feasible
  pub infeasible : IsRead counts.infeasible told.infeasible
  pub large : IsRead counts.large told.large
  pub negatives : IsRead counts.negatives told.negatives
  pub cases : IsRead counts.cases told.cases

-- a lexeme's text, or none
abbrev pub TellsText : Option Quoted → Option (List ℕ) → Type 0
TellsText (Some quoted) (Some text) = IsText quoted text
TellsText None None = Unit {0}
TellsText quoted text = ⊥

-- the code's line tells what is said; that there is no text is told without its reason
abbrev pub Tells : held.Line → Line → Type 0
Tells lines.Opening Opening = Unit {0}
Tells (lines.Weighing told) (Weighing weigh) = told ≡ weigh
Tells (lines.Token n a) (TokenLine number name) = IsRead number n × (a.now ≡ name)
Tells (lines.Rule n a names) (RuleLine number left right) = IsRead number n × (a.now ≡ left) × (names_in names ≡ right)
Tells (lines.Lexeme a t) (LexemeLine name text) = (a.now ≡ name) × TellsText t text
Tells (lines.Set k named) (SetLine kind names) = (set_kind k ≡ kind) × (names_in named ≡ names)
Tells (lines.Row k a named) (RowLine kind name names) = (row_kind k ≡ kind) × (a.now ≡ name) × (names_in named ≡ names)
Tells (lines.Case n s) (CaseLine number size) = IsRead number n × IsRead size s
Tells (lines.Derive numbers) (DeriveLine rules) = numbers_in numbers ≡ rules
Tells (lines.Tokens named) (TokensLine names) = names_in named ≡ names
Tells (lines.Text quoted) (TextLine text) = IsText quoted text
Tells lines.NoText (NoLexemeLine name) = Unit {0}
Tells lines.NoText (NoScanLine after) = Unit {0}
Tells (lines.Goal n g v) (GoalLine number goal verdict) = IsRead number n × TellsGoal g goal × TellsVerdict v verdict
Tells (lines.Base n g) (BaseLine number goal) = IsRead number n × IsRead goal g
Tells (lines.Negative n b e l r i) (NegativeLine number base edit left right at) =
    IsRead number n × IsRead base b × TellsEdit e edit × (l.now ≡ left) × (r.now ≡ right) × IsRead at i
Tells (lines.End told) (EndLine counts) = TellsCounts told counts
Tells told l = ⊥

-- a text without its newline is read as this line
abbrev pub IsReadAs : List ℕ → held.Line → Type 0
IsReadAs text told = (l : Line) × Says (line text) l × Tells told l

-- it says no line
abbrev pub SaysNone : List ℕ → Type 0
SaysNone text = (l : Line) → Says (line text) l → ⊥

-- what the code answers for a line of these words
abbrev pub Answers : List (List ℕ) → Option held.Line → Type 0
Answers ws result = MatchOption result (SaysNone (joined ws)) (IsReadAs (joined ws))
