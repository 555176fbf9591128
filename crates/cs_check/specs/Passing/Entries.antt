-- Cases, bases and negatives, as lines tell of them.
use Rattle.std.specs.Prelude.{◌≡◌, ◌<◌, ◌-◌, ◌+◌, ℕ, List, length, map, Option, Some, IsTrue, slice_get}
use Rattle.cs_grammar.specs.declared.symbol.Mark.{Mark}
use Rattle.cs_grammar.specs.declared.symbol.Symbol.TheVariants.{Nonterminal}
use Rattle.cs_grammar.specs.Grammar.{PlainGrammar}
use Rattle.cs_grammar.specs.Tree.{Tree, IsTree, code, size}
use Rattle.cs_grammar.specs.Leftmost.{IsYield}
use Rattle.cs_grammar.specs.Weights.{Measure, byte_weight, nodes}
use Rattle.cs_choices.specs.declared.weigh.Weigh.{Weigh}
use Rattle.cs_choices.specs.declared.weigh.Weigh.TheVariants.{Nodes, Bytes}
use Rattle.cs_goals.specs.declared.goal.Goal.{Goal}
use Rattle.cs_goals.specs.declared.goal.Goal.TheVariants.{Pair}
use Rattle.cs_goals.specs.Meets.{IsMeeting}
use Rattle.cs_yacc.specs.Reading.File.{File}
use Rattle.std.specs.Option.{option_map}
use Rattle.cs_closed.specs.Closed.Sets.{PlainSets}
use Rattle.cs_closed.specs.Closed.Closed.{Excludes}
use Rattle.cs_lines.specs.Words.Names.{mark_text}
use Rattle.cs_lines.specs.Words.Edits.{EditWords, IsEdited}
use Rattle.cs_lines.specs.Lines.Line.{Feasible, Line}
use Rattle.cs_check.specs.Passing.Above.{has_sets, weighs, lexemes, case_sizes, derivations, verdicts, base_goals, edits}
use Rattle.cs_check.specs.Passing.Head.{AreClaimed}
use Rattle.cs_check.specs.Passing.Places.{Part, OfNegative, OfNegativeTokens, last_part}

-- the entry of a list by its number, from 1
abbrev pub IsNumbered : {A : Type 0} → List A → ℕ → A → Type 0
IsNumbered list number a = (0 < number) × (slice_get list (number - 1) ≡ Some a)

-- and its last
abbrev pub IsLast : {A : Type 0} → List A → A → Type 0
IsLast list a = IsNumbered list (length list) a

-- ---- sizes

-- how trees are measured by these texts of tokens
abbrev pub measured : Weigh → List (Option (List ℕ)) → Measure
measured Nodes texts = nodes (length texts)
measured Bytes texts = record { numbers = map (λ (text : Option (List ℕ)). byte_weight (option_map length text)) texts; limit = 1000000 }

-- by what the lines say
abbrev pub IsMeasured : List Line → Measure → Type 0
IsMeasured lines w = (weigh : Weigh) × IsNumbered (weighs lines) 1 weigh × (w ≡ measured weigh (lexemes lines))

-- the rule numbers are the code of a tree of the start symbol that has this size
pub record HasSize (g : PlainGrammar) (w : Measure) (rules : List ℕ) (number : ℕ) : Type 0 where
  pub tree : Tree
  pub is_tree : IsTree g (Nonterminal g.start) tree
  pub code : rules ≡ code tree
  pub size : number ≡ size w tree

-- ---- cases

-- a case above has this number, and its tree meets the goal
abbrev pub IsMetBy : PlainGrammar → List Line → Goal → ℕ → Type 0
IsMetBy g lines goal case = (rules : List ℕ) × IsNumbered (derivations lines) case rules × IsMeeting g goal rules

-- what a goal line says of its cases is so
pub record IsShown (g : PlainGrammar) (lines : List Line) (goal : Goal) (size case first : ℕ) : Type 0 where
  pub sized : IsNumbered (case_sizes lines) case size
  pub met : IsMetBy g lines goal case
  pub met_first : IsMetBy g lines goal first

-- the tokens of the last case
abbrev pub IsCase : PlainGrammar → List Line → List ℕ → Type 0
IsCase g lines tokens = (rules : List ℕ) × IsLast (derivations lines) rules × IsYield g rules tokens

-- ---- bases and negatives

-- the goal of this number has a case
abbrev pub HasCase : List Line → ℕ → ℕ → Type 0
HasCase lines goal case = (size : ℕ) × (first : ℕ) × IsNumbered (verdicts lines) goal (Feasible size case first)

-- the tokens of the last base: those of the case of its goal
pub record IsBase (g : PlainGrammar) (lines : List Line) (tokens : List ℕ) : Type 0 where
  pub goal : ℕ
  pub case : ℕ
  pub rules : List ℕ
  pub is_goal : IsLast (base_goals lines) goal
  pub has_case : HasCase lines goal case
  pub derived : IsNumbered (derivations lines) case rules
  pub yields : IsYield g rules tokens

-- the edit makes these tokens of the last base
abbrev pub IsMade : File → List Line → EditWords → List ℕ → Type 0
IsMade file lines edit tokens = (w : List ℕ) × IsBase file.grammar lines w × IsEdited file w edit tokens

-- the tokens of the last negative
abbrev pub IsNegative : File → List Line → List ℕ → Type 0
IsNegative file lines tokens =
    (edit : EditWords) × IsLast (edits lines) edit × IsMade file lines edit tokens

-- the tokens of which the line below tells: those of a negative, or else of a case
abbrev pub IsTold : File → List Line → Part → List ℕ → Type 0
IsTold file lines OfNegative tokens = IsNegative file lines tokens
IsTold file lines OfNegativeTokens tokens = IsNegative file lines tokens
IsTold file lines part tokens = IsCase file.grammar lines tokens

abbrev pub AreTold : File → List Line → List ℕ → Type 0
AreTold file lines tokens = IsTold file lines (last_part lines) tokens

-- ---- what the sets exclude

-- the closed lines exclude the goal; where there are none nothing is excluded
abbrev pub IsExcluded : File → List Line → Goal → Type 0
IsExcluded file lines goal = IsTrue (has_sets lines) × (s : PlainSets) × AreClaimed file lines s × Excludes file.grammar s goal

-- the marks with these names stand at a place of the list, one behind the other, and are kept apart
pub record IsKeptApart (file : File) (lines : List Line) (marks : List Mark) (at : ℕ) (left right : List ℕ) : Type 0 where
  pub a : Mark
  pub b : Mark
  pub first : slice_get marks at ≡ Some a
  pub second : slice_get marks (at + 1) ≡ Some b
  pub named : left ≡ mark_text file a
  pub named_behind : right ≡ mark_text file b
  pub apart : IsExcluded file lines (Pair a b)
