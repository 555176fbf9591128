-- What a manifest claims of the language: of its goals, its cases and its negatives.
use Rattle.std.specs.Prelude.{◌≡◌, ℕ, ◌+◌, List, ◌∷◌, ◌++◌, length, map, Some, slice_get}
use Rattle.std.specs.List.{Contains, filter}
use Rattle.cs_grammar.specs.declared.symbol.Mark.{Mark}
use Rattle.cs_grammar.specs.declared.symbol.Symbol.TheVariants.{Nonterminal}
use Rattle.cs_grammar.specs.Tree.{Tree, IsTree, code, yield, size}
use Rattle.cs_grammar.specs.Sentence.{IsSentence, framed}
use Rattle.cs_grammar.specs.Weights.{Measure}
use Rattle.cs_goals.specs.declared.goal.Goal.{Goal}
use Rattle.cs_yacc.specs.Reading.File.{File}
use Rattle.cs_scanner.specs.Scan.Scan.{Scanning, Scans}
use Rattle.cs_closed.specs.Closed.Laws.{IsMetByNone, IsAdjacentInNone}
use Rattle.cs_lines.specs.Words.Names.{token_of, mark_text}
use Rattle.cs_lines.specs.Words.Edits.{EditWords, IsEdited}
use Rattle.cs_lines.specs.Lines.Line.{GoalWords, Feasible, Infeasible, Line, CaseLine, DeriveLine, TokensLine, TextLine, NoLexemeLine, NoScanLine, GoalLine, NegativeLine}
use Rattle.cs_check.specs.Passing.Above.{goals_in, base_goals}
use Rattle.cs_check.specs.Passing.Goals.{criterion, is_of, list_of, words_of, IsDue}
use Rattle.cs_check.specs.Passing.Entries.{IsMeasured, IsShown, IsBase}
use Rattle.cs_check.specs.Passing.Faults.{Checked}
use Rattle.cs_check.specs.Passing.Passing.{Passes}
use Rattle.cs_check.specs.Passing.Manifest.{AreLines, AreRight}

-- ---- tokens and texts

-- the line is a text that scans to the tokens, or says that there is no text
abbrev pub IsTextOf : Scanning → List ℕ → Line → Type 0
IsTextOf scanning tokens (TextLine text) = Scans scanning text tokens
IsTextOf scanning tokens (NoLexemeLine name) = Unit {0}
IsTextOf scanning tokens (NoScanLine after) = Unit {0}
IsTextOf scanning tokens l = ⊥

-- the tokens and their text stand below
pub record AreShown (c : Checked) (tokens : List ℕ) (below : List Line) : Type 0 where
  pub text : Line
  pub others : List Line
  pub place : below ≡ TokensLine (map (token_of c.file) tokens) ∷ text ∷ others
  pub scans : IsTextOf c.scanning tokens text

-- ---- cases

-- A case has this size, and what stands below it is its own: it is a tree of the start symbol, with its derivation, its size by
-- the weigh line and the lexeme lines, its yield, and a text of that.
pub record IsTrueCase (c : Checked) (lines : List Line) (number : ℕ) (below : List Line) : Type 0 where
  pub tree : Tree
  pub is_tree : IsTree c.file.grammar (Nonterminal c.file.grammar.start) tree
  pub w : Measure
  pub measured : IsMeasured lines w
  pub size : number ≡ size w tree
  pub others : List Line
  pub derived : below ≡ DeriveLine (code tree) ∷ others
  pub shown : AreShown c (yield tree) others

-- ---- goals

-- the goal lines of a criterion are all goals of that criterion, each once and in order
abbrev pub AreAllGoals : File → List Line → GoalWords → Type 0
AreAllGoals file lines words = filter (is_of (criterion words)) (goals_in lines) ≡ map (words_of file) (list_of file.grammar words)

-- the two cases that a goal line names stand above it and meet its goal, and its size is that of the goal's own case
abbrev pub IsTrueGoal : File → List Line → GoalWords → ℕ → ℕ → ℕ → Type 0
IsTrueGoal file above words size case first =
    (goal : Goal) × IsDue file (goals_in above) words goal × IsShown file.grammar above goal size case first

-- no tree of the start symbol meets the goal
abbrev pub IsTrulyInfeasible : File → List Line → GoalWords → Type 0
IsTrulyInfeasible file above words = (goal : Goal) × IsDue file (goals_in above) words goal × IsMetByNone file.grammar goal

-- ---- negatives

-- A negative is the named edit of its base, which is the yield of the case of the base's goal. The named pair stands at the named
-- place of the edited tokens, framed, and is adjacent in no sentence; so what stands below is no sentence, with a text of it.
pub record IsTrueNegative (c : Checked) (above : List Line) (base : ℕ) (edit : EditWords) (left right : List ℕ) (at : ℕ) (below : List Line) : Type 0 where
  pub whole : List ℕ
  pub tokens : List ℕ
  pub last : base ≡ length (base_goals above)
  pub is_base : IsBase c.file.grammar above whole
  pub edited : IsEdited c.file whole edit tokens
  pub a : Mark
  pub b : Mark
  pub named : left ≡ mark_text c.file a
  pub named_behind : right ≡ mark_text c.file b
  pub first : slice_get (framed tokens) at ≡ Some a
  pub second : slice_get (framed tokens) (at + 1) ≡ Some b
  pub poisoned : IsAdjacentInNone c.file.grammar a b
  pub outside : IsSentence c.file.grammar tokens → ⊥
  pub shown : AreShown c tokens below

-- ---- the claims

-- of lines: each where it stands
pub record AreTrue (c : Checked) (lines : List Line) : Type 0 where
  pub goals : (words : GoalWords) → Contains (goals_in lines) words → AreAllGoals c.file lines words
  pub cases : (above below : List Line) (n size : ℕ) → lines ≡ above ++ CaseLine n size ∷ below → IsTrueCase c lines size below
  pub shown : (above below : List Line) (n size case first : ℕ) (words : GoalWords) → lines ≡ above ++ GoalLine n words (Feasible size case first) ∷ below → IsTrueGoal c.file above words size case first
  pub infeasible : (above below : List Line) (n : ℕ) (words : GoalWords) → lines ≡ above ++ GoalLine n words Infeasible ∷ below → IsTrulyInfeasible c.file above words
  pub negatives : (above below : List Line) (n base : ℕ) (edit : EditWords) (left right : List ℕ) (at : ℕ) → lines ≡ above ++ NegativeLine n base edit left right at ∷ below → IsTrueNegative c above base edit left right at below

-- of a text: it says true lines
abbrev pub Claims : Checked → List ℕ → Type 0
Claims c text = (lines : List Line) × AreLines text lines × AreTrue c lines

-- the laws: right lines are true
abbrev pub RightLinesAreTrue : Checked → List Line → Type 0
RightLinesAreTrue c lines = AreRight c lines → AreTrue c lines

-- and that a text passes and lacks its claims cannot be
abbrev pub PassingTextsHaveClaims : Checked → List ℕ → Type 0
PassingTextsHaveClaims c text = Passes c text → (Claims c text → ⊥) → ⊥
