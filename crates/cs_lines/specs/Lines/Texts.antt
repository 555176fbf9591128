-- The text of each line of the second format: its words with one space between any two. An indented line begins with two empty
-- words.
use Rattle.std.specs.Prelude.{◌≡◌, ℕ, List, [], ◌∷◌, ◌++◌, codes, map, All, Some, None}
use Rattle.cs_bytes.specs.Names.{space}
use Rattle.cs_pattern_parts.specs.Items.StandsFor.{AreBytes}
use Rattle.cs_choices.specs.declared.weigh.Weigh.{Weigh}
use Rattle.cs_choices.specs.declared.weigh.Weigh.TheVariants.{Nodes, Bytes}
use Rattle.cs_lines.specs.Words.Words.{line, numeral, quoted, IsWord}
use Rattle.cs_lines.specs.Words.Edits.{EditWords, Deletes, Inserts, Replaces, Swaps}
use Rattle.cs_lines.specs.Lines.Line.{SetKind, Productive, Reachable, Empty, RowKind, First, Last, Next, GoalWords, OfRule, OfContext, OfPair, VerdictWords, Feasible, Infeasible, Large, Line, Opening, Weighing, TokenLine, RuleLine, LexemeLine, SetLine, RowLine, CaseLine, DeriveLine, TokensLine, TextLine, NoLexemeLine, NoScanLine, GoalLine, BaseLine, NegativeLine, EndLine}

-- words with one space between any two
abbrev pub joined : List (List ℕ) → List ℕ
joined [] = []
joined (word ∷ []) = word
joined (word ∷ next ∷ others) = word ++ space ∷ joined (next ∷ others)

abbrev pub weigh_word : Weigh → List ℕ
weigh_word Nodes = codes "nodes"
weigh_word Bytes = codes "bytes"

abbrev pub set_word : SetKind → List ℕ
set_word Productive = codes "productive"
set_word Reachable = codes "reachable"
set_word Empty = codes "empty"

abbrev pub row_word : RowKind → List ℕ
row_word First = codes "first"
row_word Last = codes "last"
row_word Next = codes "next"

-- words in front of others
abbrev pub goal_words : GoalWords → List (List ℕ) → List (List ℕ)
goal_words (OfRule r) others = codes "rule" ∷ numeral r ∷ others
goal_words (OfContext p i q) others = codes "context" ∷ numeral p ∷ numeral i ∷ numeral q ∷ others
goal_words (OfPair left right) others = codes "pair" ∷ left ∷ right ∷ others

abbrev pub verdict_words : VerdictWords → List (List ℕ)
verdict_words (Feasible size case first) =
    codes "size" ∷ numeral size ∷ codes "case" ∷ numeral case ∷ codes "first" ∷ numeral first ∷ []
verdict_words Infeasible = codes "infeasible" ∷ []
verdict_words Large = codes "large" ∷ []

abbrev pub edit_words : EditWords → List (List ℕ) → List (List ℕ)
edit_words (Deletes i) others = codes "delete" ∷ numeral i ∷ others
edit_words (Inserts i name) others = codes "insert" ∷ numeral i ∷ name ∷ others
edit_words (Replaces i name) others = codes "replace" ∷ numeral i ∷ name ∷ others
edit_words (Swaps i) others = codes "swap" ∷ numeral i ∷ others

-- the words of a line
abbrev pub words : Line → List (List ℕ)
words Opening = codes "conform" ∷ codes "2" ∷ codes "suite" ∷ []
words (Weighing weigh) = codes "weigh" ∷ weigh_word weigh ∷ []
words (TokenLine n name) = codes "token" ∷ numeral n ∷ name ∷ []
words (RuleLine n left right) = codes "rule" ∷ numeral n ∷ left ∷ codes ":" ∷ right
words (LexemeLine name None) = codes "lexeme" ∷ name ∷ codes "none" ∷ []
words (LexemeLine name (Some text)) = codes "lexeme" ∷ name ∷ quoted text ∷ []
words (SetLine kind names) = codes "closed" ∷ set_word kind ∷ names
words (RowLine kind name names) = codes "closed" ∷ row_word kind ∷ name ∷ codes ":" ∷ names
words (CaseLine n size) = codes "case" ∷ numeral n ∷ codes "size" ∷ numeral size ∷ []
words (DeriveLine rules) = [] ∷ [] ∷ codes "derive" ∷ map numeral rules
words (TokensLine names) = [] ∷ [] ∷ codes "tokens" ∷ names
words (TextLine text) = [] ∷ [] ∷ codes "text" ∷ quoted text ∷ []
words (NoLexemeLine name) = [] ∷ [] ∷ codes "no" ∷ codes "text" ∷ codes "lexeme" ∷ name ∷ []
words (NoScanLine after) = [] ∷ [] ∷ codes "no" ∷ codes "text" ∷ codes "scan" ∷ numeral after ∷ []
words (GoalLine n goal verdict) = codes "goal" ∷ numeral n ∷ goal_words goal (verdict_words verdict)
words (BaseLine n goal) = codes "base" ∷ numeral n ∷ codes "goal" ∷ numeral goal ∷ []
words (NegativeLine n base edit left right at) =
    codes "negative" ∷ numeral n ∷ codes "base" ∷ numeral base ∷ edit_words edit (codes "pair" ∷ left ∷ right ∷ codes "at" ∷ numeral at ∷ [])
words (EndLine c) =
    codes "end" ∷ codes "goals" ∷ numeral c.goals ∷ codes "feasible" ∷ numeral c.feasible ∷ codes "infeasible" ∷ numeral c.infeasible
    ∷ codes "large" ∷ numeral c.large ∷ codes "negatives" ∷ numeral c.negatives ∷ codes "cases" ∷ numeral c.cases ∷ []

-- ---- which names and texts may stand there

abbrev pub edit_names : EditWords → List (List ℕ)
edit_names (Inserts i name) = name ∷ []
edit_names (Replaces i name) = name ∷ []
edit_names edit = []

abbrev pub goal_names : GoalWords → List (List ℕ)
goal_names (OfPair left right) = left ∷ right ∷ []
goal_names goal = []

-- the names and marks of a line
abbrev pub names : Line → List (List ℕ)
names (TokenLine n name) = name ∷ []
names (RuleLine n left right) = left ∷ right
names (LexemeLine name text) = name ∷ []
names (SetLine kind named) = named
names (RowLine kind name named) = name ∷ named
names (TokensLine named) = named
names (NoLexemeLine name) = name ∷ []
names (GoalLine n goal verdict) = goal_names goal
names (NegativeLine n base edit left right at) = left ∷ right ∷ edit_names edit
names l = []

-- what stands between double quotes
abbrev pub text_in : Line → List ℕ
text_in (LexemeLine name (Some text)) = text
text_in (TextLine text) = text
text_in l = []

-- these bytes are the line, with its newline; names are words, and texts are of bytes
pub record Says (bytes : List ℕ) (l : Line) : Type 0 where
  pub text : bytes ≡ line (joined (words l))
  pub are_words : All IsWord (names l)
  pub are_bytes : AreBytes (text_in l)

-- the law: bytes are one line at most
abbrev pub SaysOne : List ℕ → Type 0
SaysOne bytes = (l k : Line) → Says bytes l → Says bytes k → l ≡ k
