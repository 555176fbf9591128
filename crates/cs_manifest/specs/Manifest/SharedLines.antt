-- The lines of a manifest that the second format has of its own, in their order.
use Rattle.std.specs.Prelude.{ℕ, List, ◌++◌, codes, Option}
use Rattle.cs_grammar.specs.declared.symbol.Mark.{Mark}
use Rattle.cs_grammar.specs.declared.symbol.Mark.TheVariants.{Begin, Token}
use Rattle.cs_yacc.specs.Reading.File.{File}
use Rattle.cs_goals.specs.declared.goal.Goal.{Goal}
use Rattle.cs_texts.specs.Rendering.Rendering.{Rendering}
use Rattle.cs_manifest.specs.Output.Words.{line, numbered_word, spaced, with_numbers}
use Rattle.cs_manifest.specs.Output.Names.{nonterminal_of, mark_text, token_words}
use Rattle.cs_manifest.specs.declared.manifest.verdict.SharedVerdict.{SharedVerdict}
use Rattle.cs_manifest.specs.declared.manifest.verdict.SharedVerdict.TheVariants.{Feasible, Infeasible, Large}
use Rattle.cs_choices.specs.declared.weigh.Weigh.{Weigh}
use Rattle.cs_choices.specs.declared.weigh.Weigh.TheVariants.{Nodes, Bytes}
use Rattle.cs_verdicts.specs.Closed.Closed.{ClosedSets}
use Rattle.cs_manifest.specs.Manifest.Lines.{table_lines, tree_lines, text_lines, goal_words}

-- ---- the head

-- `weigh nodes` or `weigh bytes`
abbrev pub weigh_line : Weigh → List ℕ
weigh_line Nodes = line (codes "weigh nodes")
weigh_line Bytes = line (codes "weigh bytes")

-- the names of nonterminals and of marks, each behind a space
abbrev pub nonterminal_words : File → List ℕ → List ℕ
nonterminal_words file nonterminals = spaced (nonterminal_of file) nonterminals

abbrev pub mark_words : File → List Mark → List ℕ
mark_words file marks = spaced (mark_text file) marks

-- `closed SET` and the names of nonterminals
abbrev pub set_line : List ℕ → File → List ℕ → List ℕ
set_line set file nonterminals = line (set ++ nonterminal_words file nonterminals)

-- `closed SET NAME :` and the names of tokens
abbrev pub edge_line : List ℕ → File → ℕ → List ℕ → List ℕ
edge_line set file nonterminal tokens = line (set ++ nonterminal_of file nonterminal ++ codes " :" ++ token_words file tokens)

-- one for each nonterminal
abbrev pub edge_lines : List ℕ → File → List (List ℕ) → List ℕ
edge_lines set file edges = with_numbers (edge_line set file) edges

-- `closed next MARK :` and the marks behind it
abbrev pub next_line : File → Mark → List Mark → List ℕ
next_line file mark marks = line (codes "closed next " ++ mark_text file mark ++ codes " :" ++ mark_words file marks)

-- that of a token
abbrev pub token_next_line : File → ℕ → List Mark → List ℕ
token_next_line file token marks = next_line file (Token token) marks

-- one for each token
abbrev pub next_lines : File → List (List Mark) → List ℕ
next_lines file nexts = with_numbers (token_next_line file) nexts

-- the sets of nonterminals
abbrev pub set_lines : File → ClosedSets → List ℕ
set_lines file closed =
    set_line (codes "closed productive") file closed.productive ++ set_line (codes "closed reachable") file closed.reachable
    ++ set_line (codes "closed empty") file closed.empty

-- and behind them those of tokens and marks
abbrev pub closed_lines : File → ClosedSets → List ℕ
closed_lines file closed =
    set_lines file closed ++ edge_lines (codes "closed first ") file closed.first ++ edge_lines (codes "closed last ") file closed.last
    ++ next_line file Begin closed.begin ++ next_lines file closed.next

-- the form's line, what was weighed, the tokens, the rules, the lexemes and the closed sets
abbrev pub shared_head_lines : File → Weigh → Option (List (Option (List ℕ))) → ClosedSets → List ℕ
shared_head_lines file weigh lexemes closed =
    line (codes "conform 2 suite") ++ weigh_line weigh ++ table_lines file lexemes ++ closed_lines file closed

-- ---- cases and goals

-- `case K size S`, and the lines of the derivation
abbrev pub case_lines : File → ℕ → ℕ → List ℕ → List ℕ → Option Rendering → List ℕ
case_lines file number size derivation tokens rendered =
    numbered_word (codes "case ") number ++ tree_lines file size derivation tokens ++ text_lines file rendered

-- ` size S case K first F`, ` infeasible` or ` large`
abbrev pub shared_verdict_line : SharedVerdict → List ℕ
shared_verdict_line (Feasible size named) =
    line (numbered_word (codes " size ") size ++ numbered_word (codes " case ") named.case ++ numbered_word (codes " first ") named.first)
shared_verdict_line Infeasible = line (codes " infeasible")
shared_verdict_line Large = line (codes " large")

-- a goal's line
abbrev pub shared_goal_line : File → ℕ → Goal → SharedVerdict → List ℕ
shared_goal_line file number goal verdict = goal_words file number goal ++ shared_verdict_line verdict
