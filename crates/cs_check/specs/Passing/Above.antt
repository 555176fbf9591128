-- What lines say together: how many there are of a kind, and what those of a kind say, in order.
use Rattle.std.specs.Prelude.{ℕ, Bool, true, false, List, Option, Some, None}
use Rattle.std.specs.List.{filter_map, list_any}
use Rattle.cs_choices.specs.declared.weigh.Weigh.{Weigh}
use Rattle.cs_lines.specs.Words.Edits.{EditWords}
use Rattle.cs_lines.specs.Lines.Line.{SetKind, Productive, Reachable, Empty, RowKind, First, Last, Next, GoalWords, VerdictWords, Feasible, Infeasible, Large, Line, Weighing, LexemeLine, SetLine, RowLine, CaseLine, DeriveLine, GoalLine, BaseLine, NegativeLine}

-- what the line of a set names
abbrev pub set_in : SetKind → Line → Option (List (List ℕ))
set_in Productive (SetLine Productive names) = Some names
set_in Reachable (SetLine Reachable names) = Some names
set_in Empty (SetLine Empty names) = Some names
set_in kind l = None

abbrev pub sets : SetKind → List Line → List (List (List ℕ))
sets kind lines = filter_map (set_in kind) lines

-- what the lines of the kind name behind `:`
abbrev pub row_in : RowKind → Line → Option (List (List ℕ))
row_in First (RowLine First name names) = Some names
row_in Last (RowLine Last name names) = Some names
row_in Next (RowLine Next name names) = Some names
row_in kind l = None

abbrev pub rows : RowKind → List Line → List (List (List ℕ))
rows kind lines = filter_map (row_in kind) lines

-- whether there are such lines
abbrev pub is_set : Line → Bool
is_set (SetLine kind names) = true
is_set l = false

abbrev pub has_sets : List Line → Bool
has_sets lines = list_any is_set lines

-- what sizes count
abbrev pub weigh_in : Line → Option Weigh
weigh_in (Weighing weigh) = Some weigh
weigh_in l = None

abbrev pub weighs : List Line → List Weigh
weighs lines = filter_map weigh_in lines

-- the texts of tokens
abbrev pub lexeme_in : Line → Option (Option (List ℕ))
lexeme_in (LexemeLine name text) = Some text
lexeme_in l = None

abbrev pub lexemes : List Line → List (Option (List ℕ))
lexemes lines = filter_map lexeme_in lines

-- the sizes of cases
abbrev pub size_in : Line → Option ℕ
size_in (CaseLine n size) = Some size
size_in l = None

abbrev pub case_sizes : List Line → List ℕ
case_sizes lines = filter_map size_in lines

-- and their derivations
abbrev pub derivation_in : Line → Option (List ℕ)
derivation_in (DeriveLine rules) = Some rules
derivation_in l = None

abbrev pub derivations : List Line → List (List ℕ)
derivations lines = filter_map derivation_in lines

-- the goals, and their verdicts
abbrev pub goal_in : Line → Option GoalWords
goal_in (GoalLine n goal verdict) = Some goal
goal_in l = None

abbrev pub goals_in : List Line → List GoalWords
goals_in lines = filter_map goal_in lines

abbrev pub verdict_in : Line → Option VerdictWords
verdict_in (GoalLine n goal verdict) = Some verdict
verdict_in l = None

abbrev pub verdicts : List Line → List VerdictWords
verdicts lines = filter_map verdict_in lines

-- the numbers of the goals of bases
abbrev pub base_in : Line → Option ℕ
base_in (BaseLine n goal) = Some goal
base_in l = None

abbrev pub base_goals : List Line → List ℕ
base_goals lines = filter_map base_in lines

-- the edits of negatives
abbrev pub edit_in : Line → Option EditWords
edit_in (NegativeLine n base edit left right at) = Some edit
edit_in l = None

abbrev pub edits : List Line → List EditWords
edits lines = filter_map edit_in lines

-- which verdicts the end counts
abbrev pub is_feasible : VerdictWords → Bool
is_feasible (Feasible size case first) = true
is_feasible verdict = false

abbrev pub is_infeasible : VerdictWords → Bool
is_infeasible Infeasible = true
is_infeasible verdict = false

abbrev pub is_large : VerdictWords → Bool
is_large Large = true
is_large verdict = false
