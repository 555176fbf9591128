-- The lines of a suite in the second format, each as it says what it says: of these its text consists.
use Rattle.std.specs.Prelude.{ℕ, ◌+◌, if◌then◌else◌, List, [], ◌∷◌, ◌++◌, length, map, count_by, sum_by, Option, None, Some}
use Rattle.cs_grammar.specs.declared.symbol.Mark.{Mark}
use Rattle.cs_grammar.specs.declared.symbol.Mark.TheVariants as marks
use Rattle.cs_yacc.specs.Reading.File.{File}
use Rattle.cs_choices.specs.declared.weigh.Weigh.{Weigh}
use Rattle.cs_mutate.specs.declared.edit.Edit.{Edit}
use Rattle.cs_mutate.specs.declared.edit.Edit.TheVariants.{Delete, Insert, Replace, Swap}
use Rattle.cs_mutate.specs.declared.negative.Negative.{Negative}
use Rattle.cs_mutate.specs.Edit.{edited}
use Rattle.cs_texts.specs.Rendering.Rendering.{Rendering, Text, NoLexeme, Differs}
use Rattle.cs_verdicts.specs.Closed.Closed.{ClosedSets}
use Rattle.cs_manifest.specs.declared.manifest.verdict.SharedVerdict.{SharedVerdict}
use Rattle.cs_manifest.specs.declared.manifest.verdict.SharedVerdict.TheVariants as shared
use Rattle.cs_manifest.specs.Manifest.Lines as verdicts
use Rattle.cs_manifest.specs.Manifest.Manifest.{BaseEntry, GoalEntry, LexemeList, NegativeEntry, SharedEntry, derivation_in}
use Rattle.cs_scanner.specs.Lexeme.Lexeme.{lexeme_in}
use Rattle.cs_lines.specs.Words.Names.{token_text, token_of, nonterminal_of, mark_text}
use Rattle.cs_lines.specs.Words.Edits.{EditWords, Deletes, Inserts, Replaces, Swaps}
use Rattle.cs_lines.specs.Lines.Line.{SetKind, Productive, Reachable, Empty, RowKind, First, Last, Next, VerdictWords, Feasible, Infeasible, Large, Counts, Line, Opening, Weighing, TokenLine, LexemeLine, SetLine, RowLine, CaseLine, DeriveLine, TokensLine, TextLine, NoLexemeLine, NoScanLine, GoalLine, BaseLine, NegativeLine, EndLine}
use Rattle.cs_check.specs.Passing.Head.{rule_of}
use Rattle.cs_check.specs.Passing.Goals.{words_of}

-- the lines of each member, seen with its number from n on, in order
abbrev pub numbered : {A : Type 0} → ℕ → (ℕ → A → List Line) → List A → List Line
numbered n f [] = []
numbered n f (x ∷ xs) = f n x ++ numbered (n + 1) f xs

-- ---- the head

abbrev pub token_lines : File → List Line
token_lines file = numbered 1 (λ n name. TokenLine n (token_text name) ∷ []) file.token_names

abbrev pub rule_lines : File → List Line
rule_lines file = numbered 1 (λ n rule. rule_of file n rule ∷ []) file.grammar.rules

abbrev pub lexeme_lines : File → LexemeList → List Line
lexeme_lines file lexemes = numbered 1 (λ n name. LexemeLine (token_text name) (lexeme_in lexemes n) ∷ []) file.token_names

-- the form's line, what is weighed, the tokens, the rules and the lexemes
abbrev pub table_lines : File → Weigh → LexemeList → List Line
table_lines file weigh lexemes =
    Opening ∷ Weighing weigh ∷ token_lines file ++ rule_lines file ++ lexeme_lines file lexemes

abbrev pub set_line : SetKind → File → List ℕ → Line
set_line kind file set = SetLine kind (map (nonterminal_of file) set)

-- one for each nonterminal
abbrev pub edge_lines : RowKind → File → List (List ℕ) → List Line
edge_lines kind file edges = numbered 1 (λ n set. RowLine kind (nonterminal_of file n) (map (token_of file) set) ∷ []) edges

abbrev pub next_line : File → Mark → List Mark → Line
next_line file mark behind = RowLine Next (mark_text file mark) (map (mark_text file) behind)

-- one for each token
abbrev pub next_lines : File → List (List Mark) → List Line
next_lines file nexts = numbered 1 (λ t set. next_line file (marks.Token t) set ∷ []) nexts

-- the closed sets: those of nonterminals, and the lists of tokens and of marks
abbrev pub set_lines : File → ClosedSets → List Line
set_lines file closed =
    set_line Productive file closed.productive ∷ set_line Reachable file closed.reachable ∷ set_line Empty file closed.empty ∷ []

abbrev pub row_lines : File → ClosedSets → List Line
row_lines file closed =
    edge_lines First file closed.first ++ edge_lines Last file closed.last
    ++ next_line file marks.Begin closed.begin ∷ next_lines file closed.next

abbrev pub closed_lines : File → ClosedSets → List Line
closed_lines file closed = set_lines file closed ++ row_lines file closed

abbrev pub head_lines : File → Weigh → LexemeList → ClosedSets → List Line
head_lines file weigh lexemes closed = table_lines file weigh lexemes ++ closed_lines file closed

-- ---- cases and goals

-- what came of a rendering
abbrev pub text_line : File → Rendering → Line
text_line file (Text text) = TextLine text
text_line file (NoLexeme token) = NoLexemeLine (token_of file token)
text_line file (Differs after) = NoScanLine after

abbrev pub text_lines : File → Option Rendering → List Line
text_lines file None = []
text_lines file (Some rendered) = text_line file rendered ∷ []

abbrev pub tokens_line : File → List ℕ → Line
tokens_line file tokens = TokensLine (map (token_of file) tokens)

abbrev pub case_lines : File → ℕ → ℕ → List ℕ → List ℕ → Option Rendering → List Line
case_lines file number size derivation tokens rendered =
    CaseLine number size ∷ DeriveLine derivation ∷ tokens_line file tokens ∷ text_lines file rendered

-- those of the case of an entry with this verdict, where it is new
abbrev pub new_case_by : File → GoalEntry → Option Rendering → SharedVerdict → List Line
new_case_by file entry rendered (shared.Feasible size named) =
    if named.fresh then case_lines file named.case size (derivation_in entry.verdict) entry.tokens rendered else []
new_case_by file entry rendered shared.Infeasible = []
new_case_by file entry rendered shared.Large = []

abbrev pub new_case : File → SharedEntry → List Line
new_case file s = new_case_by file s.entry s.rendered s.verdict

abbrev pub verdict_of : SharedVerdict → VerdictWords
verdict_of (shared.Feasible size named) = Feasible size named.case named.first
verdict_of shared.Infeasible = Infeasible
verdict_of shared.Large = Large

abbrev pub goal_line : File → ℕ → SharedEntry → Line
goal_line file number s = GoalLine number (words_of file s.entry.goal) (verdict_of s.verdict)

-- a goal by its number, behind its case where that is new
abbrev pub entry_lines : File → ℕ → SharedEntry → List Line
entry_lines file number s = new_case file s ++ goal_line file number s ∷ []

-- ---- bases and negatives

abbrev pub edit_of : File → Edit → EditWords
edit_of file (Delete i) = Deletes i
edit_of file (Insert i t) = Inserts i (token_of file t)
edit_of file (Replace i t) = Replaces i (token_of file t)
edit_of file (Swap i) = Swaps i

abbrev pub negative_line : File → ℕ → ℕ → Negative → Line
negative_line file number base n =
    NegativeLine number base (edit_of file n.edit) (mark_text file n.left) (mark_text file n.right) n.at

abbrev pub negative_lines : File → ℕ → List ℕ → ℕ → NegativeEntry → List Line
negative_lines file base tokens number entry =
    negative_line file number base entry.negative ∷ tokens_line file (edited tokens entry.negative.edit) ∷ text_lines file entry.rendered

-- the lines of bases, where so many negatives and bases stand before them
abbrev pub base_lines : File → ℕ → ℕ → List BaseEntry → List Line
base_lines file negatives number [] = []
base_lines file negatives number (base ∷ rest) =
    BaseLine (number + 1) base.goal ∷ numbered (negatives + 1) (negative_lines file (number + 1) base.tokens) base.negatives
    ++ base_lines file (negatives + length base.negatives) (number + 1) rest

-- ---- the whole

abbrev pub counts_of : List GoalEntry → List BaseEntry → ℕ → Counts
counts_of entries bases many = record {
  goals = length entries;
  feasible = count_by (λ (e : GoalEntry). verdicts.is_feasible e.verdict) entries;
  infeasible = count_by (λ (e : GoalEntry). verdicts.is_infeasible e.verdict) entries;
  large = count_by (λ (e : GoalEntry). verdicts.is_large e.verdict) entries;
  negatives = sum_by (λ (b : BaseEntry). length b.negatives) bases;
  cases = many;
}

abbrev pub suite_lines : File → Weigh → LexemeList → ClosedSets → List GoalEntry → List SharedEntry → ℕ → List BaseEntry → List Line
suite_lines file weigh lexemes closed entries list many bases =
    head_lines file weigh lexemes closed ++ numbered 1 (entry_lines file) list ++ base_lines file 0 0 bases
    ++ EndLine (counts_of entries bases many) ∷ []
