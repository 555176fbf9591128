-- The lines of a manifest in the first format, in their order, and those that both formats have.
use Rattle.std.specs.Prelude.{ℕ, List, [], ◌∷◌, ◌++◌, codes, decimal, Bool, true, false, Option, None, Some}
use Rattle.cs_bytes.specs.Names.{space}
use Rattle.cs_grammar.specs.Grammar.{Production}
use Rattle.cs_grammar.specs.declared.symbol.Symbol.{Symbol}
use Rattle.cs_grammar.specs.declared.symbol.Mark.{Mark}
use Rattle.cs_yacc.specs.declared.reading.name.TokenName.{TokenName}
use Rattle.cs_yacc.specs.Reading.File.{File}
use Rattle.cs_goals.specs.declared.goal.Goal.{Goal}
use Rattle.cs_goals.specs.declared.goal.Goal.TheVariants.{Rule, Context, Pair}
use Rattle.cs_verdicts.specs.declared.positive.verdict.Verdict.{Verdict}
use Rattle.cs_verdicts.specs.declared.positive.verdict.Verdict.TheVariants.{Feasible, Infeasible, Large}
use Rattle.cs_mutate.specs.declared.edit.Edit.{Edit}
use Rattle.cs_mutate.specs.declared.edit.Edit.TheVariants.{Delete, Insert, Replace, Swap}
use Rattle.cs_mutate.specs.declared.negative.Negative.{Negative}
use Rattle.cs_scanner.specs.Lexeme.Lexeme.{lexeme_in}
use Rattle.cs_texts.specs.Rendering.Rendering.{Rendering, Text, NoLexeme, Differs}
use Rattle.cs_manifest.specs.Output.Words.{line, numbered_word, spaced, with_numbers, quoted}
use Rattle.cs_manifest.specs.Output.Names.{token_text, token_of, token_words, nonterminal_of, symbol_text, mark_text}

-- ---- the head

-- `token N NAME`
abbrev pub token_line : ℕ → TokenName → List ℕ
token_line number name = line (codes "token " ++ decimal number ++ space ∷ token_text name)

-- the names of symbols, each behind a space
abbrev pub symbol_words : File → List Symbol → List ℕ
symbol_words file symbols = spaced (symbol_text file) symbols

-- `rule N LEFT :` and the names of the right side
abbrev pub rule_line : File → ℕ → Production → List ℕ
rule_line file number rule =
    line (codes "rule " ++ decimal number ++ space ∷ nonterminal_of file rule.left ++ codes " :" ++ symbol_words file rule.right)

abbrev pub rule_lines : File → List Production → List ℕ
rule_lines file rules = with_numbers (rule_line file) rules

-- `lexeme NAME "TEXT"` or `lexeme NAME none`
abbrev pub lexeme_text : Option (List ℕ) → List ℕ
lexeme_text None = codes "none"
lexeme_text (Some text) = quoted text

abbrev pub lexeme_line : List (Option (List ℕ)) → ℕ → TokenName → List ℕ
lexeme_line lexemes number name = line (codes "lexeme " ++ token_text name ++ space ∷ lexeme_text (lexeme_in lexemes number))

abbrev pub lexeme_lines : List (Option (List ℕ)) → List TokenName → List ℕ
lexeme_lines lexemes names = with_numbers (lexeme_line lexemes) names

-- the tokens and the rules
abbrev pub file_lines : File → List ℕ
file_lines file = with_numbers token_line file.token_names ++ rule_lines file file.grammar.rules

-- the tokens and the rules, and the lexemes where there are some
abbrev pub table_lines : File → Option (List (Option (List ℕ))) → List ℕ
table_lines file None = file_lines file
table_lines file (Some lexemes) = file_lines file ++ lexeme_lines lexemes file.token_names

-- The form's line, the tokens and the rules; in the form of `suite`, which has lexemes, also these.
abbrev pub head_lines : File → Option (List (Option (List ℕ))) → List ℕ
head_lines file None = line (codes "conform 1 rules") ++ file_lines file
head_lines file (Some lexemes) = line (codes "conform 1 suite") ++ table_lines file (Some lexemes)

-- ---- texts

-- what came of the rendering of the tokens of the line above
abbrev pub text_words : File → Rendering → List ℕ
text_words file (Text text) = codes "  text " ++ quoted text
text_words file (NoLexeme token) = codes "  no text lexeme " ++ token_of file token
text_words file (Differs after) = numbered_word (codes "  no text scan ") after

abbrev pub text_line : File → Rendering → List ℕ
text_line file rendered = line (text_words file rendered)

-- the form of `rules` has none
abbrev pub text_lines : File → Option Rendering → List ℕ
text_lines file None = []
text_lines file (Some rendered) = text_line file rendered

-- ---- goals

abbrev pub pair_words : File → Mark → Mark → List ℕ
pair_words file left right = codes "pair " ++ mark_text file left ++ space ∷ mark_text file right

abbrev pub goal_text : File → Goal → List ℕ
goal_text file (Rule r) = codes "rule " ++ decimal r
goal_text file (Context p i q) = numbered_word (codes "context ") p ++ numbered_word (codes " ") i ++ numbered_word (codes " ") q
goal_text file (Pair a b) = pair_words file a b

-- `goal N GOAL`
abbrev pub goal_words : File → ℕ → Goal → List ℕ
goal_words file number goal = codes "goal " ++ decimal number ++ space ∷ goal_text file goal

-- the rule numbers of a derivation, and the names of its tokens
abbrev pub derive_line : List ℕ → List ℕ
derive_line derivation = line (codes "  derive" ++ spaced decimal derivation)

abbrev pub tokens_line : File → List ℕ → List ℕ
tokens_line file tokens = line (codes "  tokens" ++ token_words file tokens)

abbrev pub size_words : ℕ → List ℕ
size_words size = line (codes " size " ++ decimal size)

-- ` size S`, and the rule numbers and the tokens below
abbrev pub tree_lines : File → ℕ → List ℕ → List ℕ → List ℕ
tree_lines file size derivation tokens = size_words size ++ derive_line derivation ++ tokens_line file tokens

-- A verdict's words and the lines below. Only where the goal is feasible there are some.
abbrev pub verdict_lines : File → Verdict → List ℕ → List ℕ
verdict_lines file (Feasible size derivation) tokens = tree_lines file size derivation tokens
verdict_lines file Infeasible tokens = line (codes " infeasible")
verdict_lines file Large tokens = line (codes " large")

-- a goal's lines; where its tokens were rendered, what came of it stands last
abbrev pub goal_lines : File → ℕ → Goal → Verdict → List ℕ → Option Rendering → List ℕ
goal_lines file number goal verdict tokens rendered =
    goal_words file number goal ++ verdict_lines file verdict tokens ++ text_lines file rendered

-- ---- bases and negatives

-- `base B goal N`
abbrev pub base_line : ℕ → ℕ → List ℕ
base_line number goal = line (numbered_word (codes "base ") number ++ numbered_word (codes " goal ") goal)

abbrev pub edit_text : File → Edit → List ℕ
edit_text file (Delete i) = codes "delete " ++ decimal i
edit_text file (Insert i t) = codes "insert " ++ decimal i ++ space ∷ token_of file t
edit_text file (Replace i t) = codes "replace " ++ decimal i ++ space ∷ token_of file t
edit_text file (Swap i) = codes "swap " ++ decimal i

-- `negative N base B`
abbrev pub base_words : ℕ → ℕ → List ℕ
base_words number base = numbered_word (codes "negative ") number ++ numbered_word (codes " base ") base

-- ` EDIT pair A B at K`: the edit, the pair of the edited list that no sentence has, and its place
abbrev pub fault_line : File → Negative → List ℕ
fault_line file n =
    line (space ∷ edit_text file n.edit ++ space ∷ pair_words file n.left n.right ++ numbered_word (codes " at ") n.at)

-- these, and the edited list with what came of its rendering
abbrev pub negative_lines : File → ℕ → ℕ → Negative → List ℕ → Option Rendering → List ℕ
negative_lines file number base negative tokens rendered =
    base_words number base ++ fault_line file negative ++ tokens_line file tokens ++ text_lines file rendered

-- ---- the end

abbrev pub is_feasible : Verdict → Bool
is_feasible (Feasible size derivation) = true
is_feasible Infeasible = false
is_feasible Large = false

abbrev pub is_infeasible : Verdict → Bool
is_infeasible (Feasible size derivation) = false
is_infeasible Infeasible = true
is_infeasible Large = false

abbrev pub is_large : Verdict → Bool
is_large (Feasible size derivation) = false
is_large Infeasible = false
is_large Large = true

-- the first format has no cases
abbrev pub cases_words : Option ℕ → List ℕ
cases_words None = []
cases_words (Some cases) = numbered_word (codes " cases ") cases

-- the counts of goals, of each verdict, of negatives, and of cases where there are some
abbrev pub end_words : ℕ → ℕ → ℕ → ℕ → ℕ → Option ℕ → List ℕ
end_words goals feasible infeasible large negatives cases =
    line
    (numbered_word (codes "end goals ") goals ++ numbered_word (codes " feasible ") feasible
    ++ numbered_word (codes " infeasible ") infeasible ++ numbered_word (codes " large ") large
    ++ numbered_word (codes " negatives ") negatives ++ cases_words cases)
